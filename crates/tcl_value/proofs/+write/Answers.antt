use Rattle.std.proofs.Common.{◌≡◌, ◌++◌, ◌∷◌, [], ap, ◌∙◌, sym, subst, arith, length, ◌<◌, get_or, take, inl, inr}
use Rattle.std.specs.String.{string_bytes}
use Rattle.tcl_value.specs.declared.entries.Entries.TheDeep.{deep-Element}
use Rattle.std.specs.Prelude.{◌==◌, false}
use Rattle.std.specs.Option.{option_copied}
use Rattle.std.proofs.lemmas.Option.{get_or_from_slice_get}
use Rattle.tcl_value.specs.Writing.{write, write_element}
use Rattle.tcl_value.specs.Texts.{element_text, IsElement, texts, flat, pairs}
use Rattle.tcl_value.specs.Falls.{item_falls, value_falls}
use Rattle.tcl_value.proofs.Weights.{texts-get, AreElements-get, length-texts}
use Rattle.tcl_value.proofs.Writes.{take_write, take_entry, length-pairs}
use Rattle.std.proofs.lemmas.List.{take_all}
use Rattle.tcl_value.proofs.+write.Goals as goal
use Rattle.tcl_value.proofs.+write.Goals.{items::Items::write_to-then-index-gt0+in_ok-push, items::Items::write_to-else-index-gt0, entries::Entries::write_to-then-index-gt0+in_ok-push, entries::Entries::write_to-else-index-gt0}

pub entries::Entries::write_to-write_to-requires : goal.entries::Entries::write_to-write_to-requires
entries::Entries::write_to-write_to-requires t c =
    let same : c.deref-value-items.result.now ≡ c.self.inside.values.items = c.deref-value-items.ensures.value in
    let here : c.entries.index < length c.self.inside.values.items = omega (arith, ap length same) in
    let item : c.value-item.result ≡ get_or c.self.inside.values.items c.entries.index c.value-item.result = c.value-item.is ∙ ap (λ xs. get_or xs c.entries.index c.value-item.result) same in
    let falls = value_falls c.self.inside.weight c.self.inside.keys.keys c.self.inside.values.items c.entries.index c.value-item.result c.self.invariant here in
    let deep = ap deep-Element item in
    let long = ap (λ es. length (write (flat es))) c.self.view_is in
    (omega arith, subst IsElement (sym item) (AreElements-get _ c.entries.index c.value-item.result c.self.invariant.elements here))

pub entries::Entries::write_to-entries-preserved : goal.entries::Entries::write_to-entries-preserved
unfolding lib.Utf8.encode
entries::Entries::write_to-entries-preserved t c =
    let same = ap length c.deref-value-items.ensures.value in
    let lengths : length c.self.inside.keys.keys ≡ length (texts c.deref-value-items.result.now) = omega (arith, c.self.invariant.same, length-texts c.deref-value-items.result.now) in
    take_entry c.self.inside.keys.keys (texts c.deref-value-items.result.now) c.entries.index c.unwrap-key.result.now (element_text c.value-item.result) (string_bytes c.args.out.now) (string_bytes c.entries.out) (string_bytes c.if-index-gt0.out) (string_bytes c.write_to.new.out)
    lengths
    (omega (arith, length-texts c.deref-value-items.result.now))
    (sym (get_or_from_slice_get c.self.inside.keys.keys c.entries.index c.unwrap-key.result.now c.unwrap-key.result.now (sym c.get_index.ensures.key ∙ ap option_copied c.unwrap-key.ensures)))
    (ap element_text c.value-item.is ∙ texts-get c.deref-value-items.result.now c.entries.index c.value-item.result)
    c.entries.invariant
    (elim c.if-index-gt0.branch [
      | entries::Entries::write_to-then-index-gt0+in_ok-push w ↦ inl (omega arith, ap string_bytes w.out-is ∙ w.in_ok-push.ensures.bytes)
      | entries::Entries::write_to-else-index-gt0 w ↦ inr (omega arith, ap string_bytes w.out-is)
    ])
    (c.in_ok-write_to.ensures.written
    ∙ ap (λ l. l ++ write_element false (element_text c.value-item.result)) (c.in_ok-push-2.ensures.bytes ∙ ap (λ l. l ++ 32 ∷ []) (c.in_ok-write_element.ensures.added ∙ ap (λ k. string_bytes c.if-index-gt0.out ++ write_element (c.entries.index == 0) k) c.as_str.ensures)))

pub entries::Entries::write_to-returns-clause-written : goal.entries::Entries::write_to-returns-clause-written
entries::Entries::write_to-returns-clause-written t c =
    let same = c.deref-value-items.ensures.value in
    let all = length-pairs c.self.inside.keys.keys (texts c.deref-value-items.result.now) (omega (arith, c.self.invariant.same, length-texts c.deref-value-items.result.now, ap length same)) in
    let taken : take c.entries.index (pairs c.self.inside.keys.keys (texts c.deref-value-items.result.now)) ≡ pairs c.self.inside.keys.keys (texts c.deref-value-items.result.now) = take_all c.entries.index _ (omega (arith, length-texts c.deref-value-items.result.now)) in
    c.entries.invariant ∙ ap (λ es. string_bytes c.args.out.now ++ write (flat es)) (taken ∙ ap (λ xs. pairs c.self.inside.keys.keys (texts xs)) same ∙ c.self.view_is)

pub items::Items::write_to-write_to-requires : goal.items::Items::write_to-write_to-requires
items::Items::write_to-write_to-requires t c =
    let same : c.deref-element-items.result.now ≡ c.self.inside.elements.items = c.deref-element-items.ensures.value in
    let here : c.elements.index < length c.self.inside.elements.items = omega (arith, ap length same) in
    let item : c.element-item.result ≡ get_or c.self.inside.elements.items c.elements.index c.element-item.result = c.element-item.is ∙ ap (λ xs. get_or xs c.elements.index c.element-item.result) same in
    let falls = item_falls c.self.inside.weight c.self.inside.elements.items c.elements.index c.element-item.result c.self.invariant here in
    let deep = ap deep-Element item in
    let long = ap (λ xs. length (write xs)) c.self.view_is in
    (omega arith, subst IsElement (sym item) (AreElements-get _ c.elements.index c.element-item.result c.self.invariant.elements here))

pub items::Items::write_to-elements-preserved : goal.items::Items::write_to-elements-preserved
unfolding lib.Utf8.encode
items::Items::write_to-elements-preserved t c =
    let xs = c.deref-element-items.result.now in
    take_write (texts c.deref-element-items.result.now) c.elements.index (element_text c.element-item.result) (string_bytes c.args.out.now) (string_bytes c.elements.out) (string_bytes c.if-index-gt0.out) (string_bytes c.write_to.new.out)
    (omega (arith, length-texts c.deref-element-items.result.now))
    (ap element_text c.element-item.is ∙ texts-get c.deref-element-items.result.now c.elements.index c.element-item.result)
    c.elements.invariant
    (elim c.if-index-gt0.branch [
      | items::Items::write_to-then-index-gt0+in_ok-push w ↦ inl (omega arith, ap string_bytes w.out-is ∙ w.in_ok-push.ensures.bytes)
      | items::Items::write_to-else-index-gt0 w ↦ inr (omega arith, ap string_bytes w.out-is)
    ])
    c.in_ok-write_to.ensures.written
