use Rattle.tcl_frames.proofs.ReachLemmas.{get_there}
use Rattle.tcl_frames.proofs.StepLemmas.{unlinked_where}
use Rattle.tcl_frames.proofs.steps.unlinked_place.Goals as goal

pub returns-in-Some : goal.returns-in-Some
returns-in-Some c =
    let h = c.in-Some.ensures.lookup in
    unlinked_where c.args.frames.now c.args.level c.args.base.now c.in-Some.frame.now c.unlinked_place.result (get_there c.args.frames.now c.args.level c.in-Some.frame.now h.0 h.1) c.unlinked_place.ensures
