use Rattle.std.proofs.Common.{arith, ◌≡◌, ap, ◌∙◌, sym, length, set}
use Rattle.tcl_value.specs.Texts.{weight, texts, element_text}
use Rattle.tcl_value.proofs.Weights.{length-texts, texts-set, AreElements-set}
use Rattle.tcl_value.proofs.items.Items.set_light.Goals as goal

pub index_mut-requires : goal.index_mut-requires
index_mut-requires c =
    let same = ap length c.self.view_is in
    omega (arith, length-texts c.self.inside.elements.items, c.requires.in_bounds, c.self.inside.elements.ok.0)

texts_now : (c : goal.After-self-3-1) → texts (set c.self.inside.elements.items c.args.index c.args.element) ≡ set c.args.self.now c.args.index (element_text c.args.element)
texts_now c = texts-set c.self.inside.elements.items c.args.index c.args.element ∙ ap (λ t. set t c.args.index (element_text c.args.element)) c.self.view_is

pub invariant_of-self : goal.invariant_of-self
invariant_of-self c = record {
  elements = AreElements-set _ c.args.index c.args.element c.self.invariant.elements c.requires.element;
  weighs = c.weight_with_at-weight.ensures ∙ ap weight (sym (texts_now c));
}

pub returns-clause-set : goal.returns-clause-set
returns-clause-set c = texts_now c

pub returns-clause-light : goal.returns-clause-light
returns-clause-light c =
    let now = ap weight (texts_now c) in
    omega (arith, c.weight_with_at-weight.ensures)
