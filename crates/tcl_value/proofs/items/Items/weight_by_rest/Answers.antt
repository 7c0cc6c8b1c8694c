use Rattle.std.proofs.Common.{arith, ◌≡◌, ◌∙◌, ap, sym, subst, length, ◌+◌, ◌<◌, ◌≤◌, ◌^◌, refl, take, drop, false}
use Rattle.tcl_value.specs.Texts.{IsElement, AreElements, texts, weight, weight_from}
use Rattle.tcl_value.proofs.Weights.{length-texts, AreElements-get}
use Rattle.tcl_value.proofs.Parts.{AreElements-take, AreElements-part, texts-take, texts-behind, rest_weight, kept_fewer}
use Rattle.tcl_value.proofs.items.Items.weight_by_rest.Goals as goal

pub weigh-before-requires : goal.weigh-before-requires
weigh-before-requires c = AreElements-take c.args.from _ (subst AreElements (sym c.deref.ensures.value) c.self.invariant.elements)

pub weigh_from-behind-requires : goal.weigh_from-behind-requires
weigh_from-behind-requires c = AreElements-part _ c.args.to _ (subst AreElements (sym c.deref-2.ensures.value) c.self.invariant.elements)

pub written_len-less-requires : goal.written_len-less-requires
written_len-less-requires c =
    let same = ap length c.self.view_is in
    let here : c.args.from < length c.self.inside.elements.items = omega (arith, length-texts c.self.inside.elements.items, c.requires.order, c.requires.within) in
    subst IsElement (sym c.index-leading.ensures) (AreElements-get c.self.inside.elements.items c.args.from c.index-leading.result.now c.self.invariant.elements here)

pub written_len-more-requires : goal.written_len-more-requires
written_len-more-requires c =
    let same = ap length c.self.view_is in
    let here : c.args.from < length c.self.inside.elements.items = omega (arith, length-texts c.self.inside.elements.items, c.requires.order, c.requires.within) in
    subst IsElement (sym c.index-leading.ensures) (AreElements-get c.self.inside.elements.items c.args.from c.index-leading.result.now c.self.invariant.elements here)

few : (c : goal.After-written_len-more) → c.self.inside.weight < 2 ^ 89
few c = kept_fewer _ _ _ _ c.self.invariant.weighs c.self.invariant.elements c.self.inside.elements.ok.0 c.self.inside.elements.ok.1 c.self.inside.elements.small

weighs : (c : goal.After-written_len-more) → c.self.inside.weight + c.written_len-more.result ≡ c.weigh-before.result + weight_from c.args.first (drop c.args.from (take c.args.to c.args.self.now)) + c.weigh_from-behind.result + c.written_len-less.result
weighs c =
    let xs = c.self.inside.elements.items in
    let before = c.weigh-before.ensures ∙ ap (λ z. weight (texts (take c.args.from z))) c.deref.ensures.value ∙ ap weight (texts-take c.args.from xs) in
    let long : length (texts xs) ≤ length c.deref-2.result.now = omega (arith, length-texts xs, ap length c.deref-2.ensures.value) in
    let behind = c.weigh_from-behind.ensures.weight ∙ ap (weight_from false) (texts-behind xs c.deref-2.result.now c.args.to _ c.deref-2.ensures.value long) in
    rest_weight xs c.args.self.now c.args.from c.args.to c.index-leading.result.now c.args.first _ c.self.inside.weight c.weigh-before.result c.weigh_from-behind.result c.written_len-less.result c.written_len-more.result
    c.self.invariant.weighs c.self.view_is c.requires.order c.requires.within c.index-leading.ensures refl before behind c.written_len-less.ensures.len c.written_len-more.ensures.len

pub overflow_add-result : goal.overflow_add-result
overflow_add-result c = omega (arith, few c, c.written_len-more.ensures.few)

pub overflow_sub-result : goal.overflow_sub-result
overflow_sub-result c = omega (arith, weighs c)

pub overflow_sub-result-2 : goal.overflow_sub-result-2
overflow_sub-result-2 c = omega (arith, weighs c)

pub overflow_sub-result-3 : goal.overflow_sub-result-3
overflow_sub-result-3 c = omega (arith, weighs c)

pub returns-clause-weight : goal.returns-clause-weight
returns-clause-weight c = omega (arith, weighs c)

pub returns-clause-few : goal.returns-clause-few
returns-clause-few c = omega (arith, few c, c.written_len-more.ensures.few)
