use Rattle.std.proofs.Common.{◌∙◌}
use Rattle.std.proofs.lemmas.Option.{slice_get_past}
use Rattle.tcl_frames.proofs.ReachLemmas.{get_there, bound_there, bound_nowhere}
use Rattle.tcl_frames.proofs.steps.variable_at.Goals as goal

pub returns-in-Some : goal.returns-in-Some
returns-in-Some c =
    let h = c.in-Some.ensures.lookup in
    c.variable.ensures ∙ bound_there c.args.frames.now c.args.level c.args.name.now c.in-Some.frame.now (get_there c.args.frames.now c.args.level c.in-Some.frame.now h.0 h.1)

pub returns-in-None : goal.returns-in-None
returns-in-None c =
    let h = c.in-None.ensures.lookup in
    bound_nowhere c.args.frames.now c.args.level c.args.name.now (slice_get_past c.args.frames.now c.args.level h.3)
