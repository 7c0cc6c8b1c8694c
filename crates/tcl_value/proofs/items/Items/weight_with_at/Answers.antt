use Rattle.std.proofs.Common.{arith, ◌≡◌, ap, ◌∙◌, sym, subst, length, ◌+◌, ◌<◌, ◌^◌, refl, set}
use Rattle.tcl_value.specs.Texts.{element_text, IsElement, texts, weight}
use Rattle.tcl_value.proofs.Weights.{kept_few, set_weight, length-texts, texts-get, AreElements-get}
use Rattle.tcl_value.proofs.items.Items.weight_with_at.Goals as goal

pub written_len-less-requires : goal.written_len-less-requires
written_len-less-requires c =
    let same = ap length c.self.view_is in
    let here : c.args.index < length c.self.inside.elements.items = omega (arith, length-texts c.self.inside.elements.items, c.requires.in_bounds) in
    subst IsElement (sym c.index.ensures) (AreElements-get c.self.inside.elements.items c.args.index c.index.result.now c.self.invariant.elements here)

few : (c : goal.After-written_len-more) → c.self.inside.weight < 2 ^ 90
few c = kept_few _ _ _ _ c.self.invariant.weighs c.self.invariant.elements c.self.inside.elements.ok.0 c.self.inside.elements.ok.1 c.self.inside.elements.small

pub overflow_add-result : goal.overflow_add-result
overflow_add-result c = omega (arith, few c)

weighs : (c : goal.After-written_len-more) → c.self.inside.weight + c.written_len-more.result ≡ weight (set c.args.self.now c.args.index (element_text c.args.element.now)) + c.written_len-less.result
weighs c =
    let same = ap length c.self.view_is in
    let here : c.args.index < length (texts c.self.inside.elements.items) = omega (arith, c.requires.in_bounds) in
    set_weight _ c.args.self.now c.args.index (element_text c.args.element.now) (element_text c.index.result.now) c.self.inside.weight c.written_len-less.result c.written_len-more.result _ c.self.invariant.weighs c.self.view_is here refl c.written_len-less.ensures.len (ap element_text c.index.ensures ∙ texts-get c.self.inside.elements.items c.args.index c.index.result.now) c.written_len-more.ensures.len

pub overflow_sub-result : goal.overflow_sub-result
overflow_sub-result c = omega (arith, weighs c)

pub returns : goal.returns
returns c = omega (arith, weighs c)
