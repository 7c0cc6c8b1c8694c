use Rattle.std.proofs.Common.{arith, ◌≡◌, ◌∙◌, ap, sym, subst, ◌<◌, length, take, get_or}
use Rattle.std.specs.Option.{option_copied}
use Rattle.std.proofs.lemmas.Option.{get_or_from_slice_get}
use Rattle.std.proofs.lemmas.List.{take_all}
use Rattle.tcl_value.specs.Limits.{IsWithin}
use Rattle.tcl_value.specs.Texts.{texts, element_text, IsElement, flat, pairs}
use Rattle.tcl_value.proofs.Weights.{AreElements-get, length-texts, texts-get}
use Rattle.tcl_value.proofs.Writes.{AllWithin-get, take_flat, two_more, two_more_elements, length-pairs}
use Rattle.tcl_value.proofs.entries.Entries.to_elements.Goals as goal

pub entries-preserved : goal.entries-preserved
entries-preserved c =
    let values = c.deref-value-items.ensures.value in
    let many = ap length c.deref-value-items.ensures.value in
    let lengths : length c.self.inside.keys.keys ≡ length (texts c.deref-value-items.result.now) = omega (arith, c.self.invariant.same, length-texts c.deref-value-items.result.now) in
    let key : c.unwrap-key.result.now ≡ get_or c.self.inside.keys.keys c.entries.index c.unwrap-key.result.now = sym (get_or_from_slice_get c.self.inside.keys.keys c.entries.index c.unwrap-key.result.now c.unwrap-key.result.now (sym c.get_index.ensures.key ∙ ap option_copied c.unwrap-key.ensures)) in
    let here : c.entries.index < length c.self.inside.keys.keys = omega (arith, length-texts c.deref-value-items.result.now) in
    let element = AreElements-get c.self.inside.values.items c.entries.index c.value-item.result c.self.invariant.elements (omega arith) in
    let value : c.value-item.result ≡ get_or c.self.inside.values.items c.entries.index c.value-item.result = c.value-item.is ∙ ap (λ xs. get_or xs c.entries.index c.value-item.result) values in
    record {
      same = two_more _ _ _ c.in_ok-clone.field-0 c.unwrap-key.result.now (element_text c.value-item.result) c.in_ok-clone-2.field-0 _ c.in_ok-push.ensures.items c.in_ok-clone.ensures.cases c.in_ok-push-2.ensures.items c.in_ok-clone-2.ensures.cases.text c.entries.invariant.same
          ∙ sym (take_flat c.self.inside.keys.keys (texts c.deref-value-items.result.now) c.entries.index c.unwrap-key.result.now (element_text c.value-item.result) lengths (omega (arith, length-texts c.deref-value-items.result.now)) key (ap element_text c.value-item.is ∙ texts-get c.deref-value-items.result.now c.entries.index c.value-item.result));
      made = two_more_elements _ _ _ c.in_ok-clone.field-0 c.in_ok-clone-2.field-0 c.in_ok-push.ensures.items c.in_ok-push-2.ensures.items c.entries.invariant.made
          (subst IsWithin (sym key ∙ sym c.in_ok-clone.ensures.cases) (AllWithin-get c.self.inside.keys.keys c.entries.index c.unwrap-key.result.now c.self.invariant.keys here))
          (c.in_ok-clone-2.ensures.cases.keeps (subst IsElement (sym value) element));
    }

pub returns-clause-texts : goal.returns-clause-texts
returns-clause-texts c =
    let same = c.deref-value-items.ensures.value in
    let all = length-pairs c.self.inside.keys.keys (texts c.deref-value-items.result.now) (omega (arith, c.self.invariant.same, length-texts c.deref-value-items.result.now, ap length same)) in
    let taken : take c.entries.index (pairs c.self.inside.keys.keys (texts c.deref-value-items.result.now)) ≡ pairs c.self.inside.keys.keys (texts c.deref-value-items.result.now) = take_all c.entries.index _ (omega (arith, length-texts c.deref-value-items.result.now)) in
    c.entries.invariant.same ∙ ap flat (taken ∙ ap (λ xs. pairs c.self.inside.keys.keys (texts xs)) same ∙ c.self.view_is)

pub returns-clause-elements : goal.returns-clause-elements
returns-clause-elements c = c.entries.invariant.made
