use Rattle.std.proofs.Common.{refl, sym, ◌∙◌, ap}
use Rattle.std.specs.Map.{lookup}
use Rattle.std.specs.Str.{bytes_eq}
use Rattle.tcl_frames.specs.Variables.{Frame}
use Rattle.tcl_frames.specs.declared.variable.Variable.TheVariants.{Scalar}
use Rattle.tcl_frames.proofs.FrameLemmas.{at_some}
use Rattle.tcl_frames.proofs.VariableLends.{lent_variable, lent_back, scalar_found}
use Rattle.tcl_frames.proofs.frame.Frame.scalar_mut_short.Goals as goal

pub returns-in-Some : goal.returns-in-Some
returns-in-Some c =
    let q = c.args.name.now in
    let v = c.in-Some.variable.now in
    let r = c.as_scalar_mut.result in
    let found = c.in-Some.ensures.value in
    let there = ap (λ (s : Frame). lookup (bytes_eq q) s.variables) (sym c.self.view_is) ∙ found in (
      (
        refl,
        (λ w. lent_variable _ c.args.self.now q v (c.as_scalar_mut.follows.lender w) _ c.self.view_is found (at_some c.get_mut_short.result c.in-Some.variable c.in-Some.is (c.get_mut_short.follows.holds (c.as_scalar_mut.follows.lender w))) r (Scalar w) (c.as_scalar_mut.follows.holds w)),
        lent_back _ c.args.self.now q v c.as_scalar_mut.follows.lender-at-none _ c.self.view_is found (at_some c.get_mut_short.result c.in-Some.variable c.in-Some.is (c.get_mut_short.follows.holds c.as_scalar_mut.follows.lender-at-none)) c.as_scalar_mut.follows.holds-at-none,
      ),
      record { writes_back = tt; scalar = scalar_found v r (lookup (bytes_eq q) c.args.self.now.variables) there c.as_scalar_mut.ensures.scalar },
    )
