use Rattle.std.proofs.Common.{sym, ◌∙◌, ap, subst, arith}
use Rattle.std.specs.Option.{option_copied}
use Rattle.tcl_frames.specs.Variables.{part_of}
use Rattle.tcl_frames.specs.Places.{Spot}
use Rattle.tcl_frames.specs.Reached.{start, over}
use Rattle.tcl_frames.specs.Sound.{AreFit}
use Rattle.tcl_frames.proofs.StepLemmas.{end_low}
use Rattle.tcl_frames.proofs.frames.Frames.lend_end.Goals as goal

pub lend-requires : goal.lend-requires
lend-requires c =
    let fit = subst (AreFit 0) (sym c.as_slice.ensures.value) c.self.invariant.0.fit in
    let low = end_low c.as_slice.result.now fit (over (start c.args.level c.args.base.now) (part_of (option_copied c.args.key))) in
    omega (arith, low, ap (λ (p : Spot). p.level) (c.end_or-at.ensures ∙ sym c.in_ok-end.ensures), c.requires)
