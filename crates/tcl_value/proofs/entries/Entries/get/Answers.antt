use Rattle.tcl_value.specs.Texts.{element_text}
use Rattle.tcl_value.proofs.Removed.{value_at_place, value_absent}
use Rattle.tcl_value.proofs.entries.Entries.get.Goals as goal

pub returns-in-Some-clause-text : goal.returns-in-Some-clause-text
returns-in-Some-clause-text c = value_at_place c.args.self.now c.args.key.now (element_text c.value.result.now) c.in-Some.index c.in-Some.ensures c.value.ensures.text

pub returns-in-None-clause-text : goal.returns-in-None-clause-text
returns-in-None-clause-text c = value_absent c.args.self.now c.args.key.now c.in-None.ensures
