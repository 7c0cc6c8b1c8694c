use Rattle.tcl_value.specs.Texts.{element_text}
use Rattle.tcl_value.proofs.Entered.{put_found_at, put_new_at, found_refused, new_refused}
use Rattle.tcl_value.proofs.entries.Entries.put.Goals as goal

pub returns-in-Some-clause-put : goal.returns-in-Some-clause-put
returns-in-Some-clause-put c = put_found_at c.set_at.result c.args.self.now c.set_at.new.self c.args.key (element_text c.args.value) c.in-Some.index c.in-Some.ensures c.set_at.ensures.set

pub returns-in-Some-clause-refused : goal.returns-in-Some-clause-refused
returns-in-Some-clause-refused c = found_refused c.args.self.now c.args.key (element_text c.args.value) c.in-Some.index c.args.most c.in-Some.ensures c.set_at.ensures.refused

pub returns-in-None-clause-put : goal.returns-in-None-clause-put
returns-in-None-clause-put c = put_new_at c.add.result c.args.self.now c.add.new.self c.args.key (element_text c.args.value) c.in-None.ensures c.add.ensures.added

pub returns-in-None-clause-refused : goal.returns-in-None-clause-refused
returns-in-None-clause-refused c = new_refused c.args.self.now c.args.key (element_text c.args.value) c.args.most c.in-None.ensures c.add.ensures.refused
