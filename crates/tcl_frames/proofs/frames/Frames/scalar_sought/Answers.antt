use Rattle.std.proofs.Common.{sym, ◌∙◌, ap}
use Rattle.tcl_frames.specs.Chain.{Chain}
use Rattle.tcl_frames.proofs.NearLemmas.{read_last}
use Rattle.tcl_frames.proofs.frames.Frames.scalar_sought.Goals as goal

pub returns-in-Some : goal.returns-in-Some
returns-in-Some c =
    read_last c.deref.result.now c.args.self.now c.args.name.now c.in-Some.frame.now c.scalar_near.result
    (c.deref.ensures.value ∙ ap (λ (d : Chain). d.frames) c.self.view_is)
    (sym c.is_simple.ensures ∙ c.if-not-is_simple.false)
    (sym c.in-Some.ensures.value) c.scalar_near.ensures
