use Rattle.tcl_text.specs.Lists.{list_of}
use Rattle.tcl_lists.proofs.Refused.{extend_made, extend_refused}
use Rattle.tcl_lists.proofs.lengthening.extend.Goals as goal

pub returns-in-Ok : goal.returns-in-Ok
returns-in-Ok c = extend_made (list_of c.args.old.now) c.args.words.now c.extend.new.self c.in-Ok.ensures.extended

pub returns-in-Err : goal.returns-in-Err
returns-in-Err c = (extend_refused c.not_changed.result c.in-Err.why (list_of c.args.old.now) c.args.words.now c.not_changed.ensures c.in-Err.ensures.refused, c.in-Err.ensures.unchanged)
