use Rattle.std.proofs.Common.{refl, sym, ◌∙◌, ap, subst, Ok, ◌≡◌}
use Rattle.std.specs.Prelude.{IfOk, IfErr}
use Rattle.std.specs.Map.{lookup}
use Rattle.std.specs.Str.{bytes_eq}
use Rattle.tcl_frames.specs.Access.{value_of}
use Rattle.tcl_frames.specs.Faults.{Refuses}
use Rattle.tcl_frames.specs.Parts.{seen_part}
use Rattle.tcl_frames.specs.Variables.{Frame}
use Rattle.tcl_frames.proofs.FrameLemmas.{at_some, lent_is, lent_same}
use Rattle.tcl_frames.proofs.VariableLends.{lent_named}
use Rattle.tcl_frames.proofs.frame.Frame.value_mut_near.Goals as goal

pub returns-in-Some : goal.returns-in-Some
returns-in-Some c =
    let b = c.args.base.now in
    let x = c.args.name.now in
    let part = seen_part c.args.part in
    let v = c.in-Some.found.now in
    let r = c.value_mut.result in
    let found = lent_is c.get_mut_near.result c.in-Some.found _ c.in-Some.is c.get_mut_near.ensures.value in
    let there = ap (λ (s : Frame). lookup (bytes_eq b) s.variables) (sym c.self.view_is) ∙ found in (
      (
        refl,
        (λ w h. lent_named _ c.args.self.now b v (c.value_mut.follows.lender w) _ part w x c.self.view_is found (at_some c.get_mut_near.result c.in-Some.found c.in-Some.is (c.get_mut_near.follows.holds (c.value_mut.follows.lender w))) (c.value_mut.follows.holds w h)),
        lent_same _ _ c.self.view_is b v c.value_mut.follows.lender-at-none _ r found (at_some c.get_mut_near.result c.in-Some.found c.in-Some.is (c.get_mut_near.follows.holds c.value_mut.follows.lender-at-none)) c.value_mut.follows.holds-at-none,
      ),
      (
        subst (λ o. IfOk r (λ t. value_of part o x ≡ Ok t.now)) (sym there) c.value_mut.ensures.ok,
        subst (λ o. IfErr r (λ e. Refuses e (value_of part o x))) (sym there) c.value_mut.ensures.err,
      ),
    )
