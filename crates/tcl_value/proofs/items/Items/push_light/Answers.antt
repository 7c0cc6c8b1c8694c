use Rattle.std.proofs.Common.{arith, ◌≡◌, ap, ◌∙◌, sym, subst, ◌++◌, ◌∷◌, []}
use Rattle.tcl_value.specs.Texts.{weight, texts, element_text, AreElements}
use Rattle.tcl_value.proofs.Weights.{texts-push, AreElements-push}
use Rattle.tcl_value.proofs.items.Items.push_light.Goals as goal

texts_now : (c : goal.After-self-2-1) → texts c.push.new.self.items ≡ c.args.self.now ++ element_text c.args.element ∷ []
texts_now c = ap texts c.in_ok-push.ensures.items ∙ texts-push c.self.inside.elements.items c.args.element ∙ ap (λ t. t ++ element_text c.args.element ∷ []) c.self.view_is

pub invariant_of-self-2 : goal.invariant_of-self-2
invariant_of-self-2 c = record {
  elements = subst AreElements (sym c.in_ok-push.ensures.items) (AreElements-push _ c.args.element c.self.invariant.elements c.requires);
  weighs = c.weight_with-weight.ensures ∙ ap weight (sym (texts_now c));
}

pub returns-clause-light : goal.returns-clause-light
returns-clause-light c =
    let now = ap weight (texts_now c) in
    omega (arith, c.weight_with-weight.ensures)
