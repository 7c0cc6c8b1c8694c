use Rattle.std.proofs.Common.{refl, Ok, is_ok, ◌∙◌, ap, sym}
use Rattle.tcl_frames.proofs.FrameLemmas.{at_some, lent_is}
use Rattle.tcl_frames.proofs.VariableLends.{lent_element, lent_value}
use Rattle.tcl_frames.proofs.variable.Variable.element_mut.Goals as goal

pub returns-in-Some : goal.returns-in-Some
returns-in-Some c =
    let found = lent_is c.get_mut.result c.in-Some.value _ c.in-Some.is c.get_mut.ensures.value in
    let array = c.in_ok-elements.ensures.ok in (
      (
        refl,
        (λ w k.
            lent_element c.args.self.now c.in_ok-elements.elements.now (c.get_mut.follows.lender w) c.args.key.now c.args.name.now c.in-Some.value.now w array found (at_some c.get_mut.result c.in-Some.value c.in-Some.is (c.get_mut.follows.holds w))
            ∙ ap Ok (sym (c.elements_mut.follows.holds (c.get_mut.follows.lender w) (ap is_ok c.in_ok-elements.was)))),
        tt,
      ),
      (lent_value c.args.self.now c.in_ok-elements.elements.now c.args.key.now c.args.name.now c.in-Some.value.now array found, tt),
    )
