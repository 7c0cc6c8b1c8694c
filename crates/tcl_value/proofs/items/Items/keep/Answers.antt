use Rattle.std.proofs.Common.{arith, ◌≡◌, ◌≤◌, ◌++◌, ◌-◌, ◌∙◌, List, ap, sym, subst, take, drop, length}
use Rattle.tcl_value.specs.Texts.{AreElements, texts, weight}
use Rattle.tcl_value.specs.declared.element.Element.{Element}
use Rattle.tcl_value.proofs.Weights.{length-texts}
use Rattle.tcl_value.proofs.Parts.{AreElements-drop, AreElements-take, kept_part, texts-kept}
use Rattle.tcl_value.proofs.items.Items.keep.Goals as goal

pub invariant_of-self : goal.invariant_of-self
invariant_of-self c =
    let xs = c.self.inside.elements.items in
    let same = ap length c.self.view_is in
    let here : c.args.to ≤ length xs = omega (arith, length-texts xs, c.requires.within) in
    let now : c.truncate-2.new.self.items ≡ drop c.args.from (take c.args.to xs) =
    c.truncate-2.ensures.items ∙ ap (take (c.args.to - c.args.from)) (c.rotate_left.ensures.items ∙ ap (λ (ys : List Element). drop c.args.from ys ++ take c.args.from ys) c.truncate.ensures.items) ∙ kept_part xs c.args.from c.args.to c.requires.order here in
    record {
      elements = subst AreElements (sym now) (AreElements-drop c.args.from _ (AreElements-take c.args.to xs c.self.invariant.elements));
      weighs = c.part_weight-weight.ensures.weight ∙ ap weight (sym (ap texts now ∙ texts-kept xs c.args.self.now c.args.from c.args.to c.self.view_is));
    }

pub returns : goal.returns
returns c =
    let xs = c.self.inside.elements.items in
    let same = ap length c.self.view_is in
    let here : c.args.to ≤ length xs = omega (arith, length-texts xs, c.requires.within) in
    let now : c.truncate-2.new.self.items ≡ drop c.args.from (take c.args.to xs) =
    c.truncate-2.ensures.items ∙ ap (take (c.args.to - c.args.from)) (c.rotate_left.ensures.items ∙ ap (λ (ys : List Element). drop c.args.from ys ++ take c.args.from ys) c.truncate.ensures.items) ∙ kept_part xs c.args.from c.args.to c.requires.order here in
    ap texts now ∙ texts-kept xs c.args.self.now c.args.from c.args.to c.self.view_is
