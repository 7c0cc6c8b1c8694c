use Rattle.std.proofs.Common.{◌≡◌, ◌++◌, ◌≤◌, [], refl, ap, ◌∙◌, sym, subst, arith, length, ◌<◌, get_or, drop, ◌+◌, true, false}
use Rattle.std.proofs.Math.ListN.{drop_of_length-le}
use Rattle.std.specs.Prelude.{◌==◌}
use Rattle.std.specs.Option.{option_copied}
use Rattle.std.proofs.lemmas.Option.{get_or_from_slice_get}
use Rattle.tcl_value.specs.declared.entries.Entries.TheDeep.{deep-Element}
use Rattle.tcl_value.specs.Writing.{write, write_from, placed}
use Rattle.tcl_value.specs.Texts.{element_text, IsElement, texts, flat, pairs}
use Rattle.tcl_value.specs.Falls.{item_falls, value_falls}
use Rattle.tcl_value.proofs.Weights.{texts-get, AreElements-get, length-texts}
use Rattle.tcl_value.proofs.Writes.{length-pairs}
use Rattle.tcl_value.proofs.Same.{write_from-all, told, told_from, behind, never, from_item, from_entry, ended}
use Rattle.tcl_value.proofs.+compare.Goals as goal

pub items::Items::is_text-elements-init : goal.items::Items::is_text-elements-init
items::Items::is_text-elements-init t c =
    let xs = texts c.deref-element-items.result.now in
    told_from c.args.text.now (write xs) (write_from true xs) (sym (write_from-all xs))

pub items::Items::is_text-behind-requires : goal.items::Items::is_text-behind-requires
items::Items::is_text-behind-requires t c =
    let same : c.deref-element-items.result.now ≡ c.self.inside.elements.items = c.deref-element-items.ensures.value in
    let here : c.elements.index < length c.self.inside.elements.items = omega (arith, ap length same) in
    let item : c.element-item.result ≡ get_or c.self.inside.elements.items c.elements.index c.element-item.result = c.element-item.is ∙ ap (λ xs. get_or xs c.elements.index c.element-item.result) same in
    let falls = item_falls c.self.inside.weight c.self.inside.elements.items c.elements.index c.element-item.result c.self.invariant here in
    let deep = ap deep-Element item in
    let long = ap (λ xs. length (write xs)) c.self.view_is in
    (omega arith, subst IsElement (sym item) (AreElements-get _ c.elements.index c.element-item.result c.self.invariant.elements here))

pub items::Items::is_text-returns-in-None : goal.items::Items::is_text-returns-in-None
items::Items::is_text-returns-in-None t c =
    let xs = texts c.deref-element-items.result.now in
    let x = element_text c.element-item.result in
    let here : c.elements.index < length xs = omega (arith, length-texts c.deref-element-items.result.now) in
    let item : x ≡ get_or xs c.elements.index x = ap element_text c.element-item.is ∙ texts-get c.deref-element-items.result.now c.elements.index c.element-item.result in
    told c.args.text.now (write xs) (write c.args.self.now)
    (never c.elements.rest.now (placed (c.elements.index == 0) x) (write_from (c.elements.index + 1 == 0) (drop (c.elements.index + 1) xs)) (write_from (c.elements.index == 0) (drop c.elements.index xs))
    c.elements.invariant (from_item xs c.elements.index x here item) c.in-None.ensures)
    (ap (λ es. write (texts es)) c.deref-element-items.ensures.value ∙ ap write c.self.view_is)

pub items::Items::is_text-elements-preserved : goal.items::Items::is_text-elements-preserved
items::Items::is_text-elements-preserved t c =
    let xs = texts c.deref-element-items.result.now in
    let x = element_text c.element-item.result in
    let here : c.elements.index < length xs = omega (arith, length-texts c.deref-element-items.result.now) in
    let item : x ≡ get_or xs c.elements.index x = ap element_text c.element-item.is ∙ texts-get c.deref-element-items.result.now c.elements.index c.element-item.result in
    behind c.elements.rest.now (placed (c.elements.index == 0) x) c.in-Some.behind.now (write_from (c.elements.index + 1 == 0) (drop (c.elements.index + 1) xs)) (write_from (c.elements.index == 0) (drop c.elements.index xs))
    c.elements.invariant (from_item xs c.elements.index x here item) c.in-Some.ensures

pub entries::Entries::is_text-entries-init : goal.entries::Entries::is_text-entries-init
entries::Entries::is_text-entries-init t c =
    let xs = flat (pairs c.self.inside.keys.keys (texts c.deref-value-items.result.now)) in
    told_from c.args.text.now (write xs) (write_from true xs) (sym (write_from-all xs))

pub entries::Entries::is_text-behind-requires : goal.entries::Entries::is_text-behind-requires
entries::Entries::is_text-behind-requires t c =
    let same : c.deref-value-items.result.now ≡ c.self.inside.values.items = c.deref-value-items.ensures.value in
    let here : c.entries.index < length c.self.inside.values.items = omega (arith, ap length same) in
    let item : c.value-item.result ≡ get_or c.self.inside.values.items c.entries.index c.value-item.result = c.value-item.is ∙ ap (λ xs. get_or xs c.entries.index c.value-item.result) same in
    let falls = value_falls c.self.inside.weight c.self.inside.keys.keys c.self.inside.values.items c.entries.index c.value-item.result c.self.invariant here in
    let deep = ap deep-Element item in
    let long = ap (λ es. length (write (flat es))) c.self.view_is in
    (omega arith, subst IsElement (sym item) (AreElements-get _ c.entries.index c.value-item.result c.self.invariant.elements here))

pub entries::Entries::is_text-returns-in_default : goal.entries::Entries::is_text-returns-in_default
entries::Entries::is_text-returns-in_default t c =
    let ks = c.self.inside.keys.keys in
    let vs = texts c.deref-value-items.result.now in
    let same = ap length c.deref-value-items.ensures.value in
    let lengths : length ks ≡ length vs = omega (arith, c.self.invariant.same, length-texts c.deref-value-items.result.now) in
    let here : c.entries.index < length vs = omega (arith, length-texts c.deref-value-items.result.now) in
    let k = c.unwrap-key.result.now in
    let v = element_text c.value-item.result in
    let key : k ≡ get_or ks c.entries.index k = sym (get_or_from_slice_get ks c.entries.index k k (sym c.get_index.ensures.key ∙ ap option_copied c.unwrap-key.ensures)) in
    let value : v ≡ get_or vs c.entries.index v = ap element_text c.value-item.is ∙ texts-get c.deref-value-items.result.now c.entries.index c.value-item.result in
    let entry = from_entry ks vs c.entries.index k v lengths here key value in
    let later = write_from (c.entries.index + 1 == 0) (flat (drop (c.entries.index + 1) (pairs ks vs))) in
    let now = write_from (c.entries.index == 0) (flat (drop c.entries.index (pairs ks vs))) in
    told c.args.text.now (write (flat (pairs ks vs))) (write (flat c.args.self.now))
    (never c.entries.rest.now (placed (c.entries.index == 0) k) (placed false v ++ later) now c.entries.invariant entry c.in_default.ensures)
    (ap (λ es. write (flat (pairs ks (texts es)))) c.deref-value-items.ensures.value ∙ ap (λ es. write (flat es)) c.self.view_is)

pub entries::Entries::is_text-returns-in-None : goal.entries::Entries::is_text-returns-in-None
entries::Entries::is_text-returns-in-None t c =
    let ks = c.self.inside.keys.keys in
    let vs = texts c.deref-value-items.result.now in
    let same = ap length c.deref-value-items.ensures.value in
    let lengths : length ks ≡ length vs = omega (arith, c.self.invariant.same, length-texts c.deref-value-items.result.now) in
    let here : c.entries.index < length vs = omega (arith, length-texts c.deref-value-items.result.now) in
    let k = c.unwrap-key.result.now in
    let v = element_text c.value-item.result in
    let key : k ≡ get_or ks c.entries.index k = sym (get_or_from_slice_get ks c.entries.index k k (sym c.get_index.ensures.key ∙ ap option_copied c.unwrap-key.ensures)) in
    let value : v ≡ get_or vs c.entries.index v = ap element_text c.value-item.is ∙ texts-get c.deref-value-items.result.now c.entries.index c.value-item.result in
    let entry = from_entry ks vs c.entries.index k v lengths here key value in
    let later = write_from (c.entries.index + 1 == 0) (flat (drop (c.entries.index + 1) (pairs ks vs))) in
    let now = write_from (c.entries.index == 0) (flat (drop c.entries.index (pairs ks vs))) in
    told c.args.text.now (write (flat (pairs ks vs))) (write (flat c.args.self.now))
    (never c.in-Some.behind.now (placed false v) later (placed false v ++ later)
    (behind c.entries.rest.now (placed (c.entries.index == 0) k) c.in-Some.behind.now (placed false v ++ later) now c.entries.invariant entry c.in-Some.ensures)
    refl c.in-None.ensures)
    (ap (λ es. write (flat (pairs ks (texts es)))) c.deref-value-items.ensures.value ∙ ap (λ es. write (flat es)) c.self.view_is)

pub entries::Entries::is_text-entries-preserved : goal.entries::Entries::is_text-entries-preserved
entries::Entries::is_text-entries-preserved t c =
    let ks = c.self.inside.keys.keys in
    let vs = texts c.deref-value-items.result.now in
    let same = ap length c.deref-value-items.ensures.value in
    let lengths : length ks ≡ length vs = omega (arith, c.self.invariant.same, length-texts c.deref-value-items.result.now) in
    let here : c.entries.index < length vs = omega (arith, length-texts c.deref-value-items.result.now) in
    let k = c.unwrap-key.result.now in
    let v = element_text c.value-item.result in
    let key : k ≡ get_or ks c.entries.index k = sym (get_or_from_slice_get ks c.entries.index k k (sym c.get_index.ensures.key ∙ ap option_copied c.unwrap-key.ensures)) in
    let value : v ≡ get_or vs c.entries.index v = ap element_text c.value-item.is ∙ texts-get c.deref-value-items.result.now c.entries.index c.value-item.result in
    let entry = from_entry ks vs c.entries.index k v lengths here key value in
    let later = write_from (c.entries.index + 1 == 0) (flat (drop (c.entries.index + 1) (pairs ks vs))) in
    let now = write_from (c.entries.index == 0) (flat (drop c.entries.index (pairs ks vs))) in
    behind c.in-Some.behind.now (placed false v) c.in-Some-behind.behind.now later (placed false v ++ later)
    (behind c.entries.rest.now (placed (c.entries.index == 0) k) c.in-Some.behind.now (placed false v ++ later) now c.entries.invariant entry c.in-Some.ensures)
    refl c.in-Some-behind.ensures

pub entries::Entries::is_text-returns : goal.entries::Entries::is_text-returns
entries::Entries::is_text-returns t c =
    let ks = c.self.inside.keys.keys in
    let vs = texts c.deref-value-items.result.now in
    let same = ap length c.deref-value-items.ensures.value in
    let all = length-pairs ks vs (omega (arith, c.self.invariant.same, length-texts c.deref-value-items.result.now)) in
    let past : length (pairs ks vs) ≤ c.entries.index = omega (arith, length-texts c.deref-value-items.result.now) in
    let none : drop c.entries.index (pairs ks vs) ≡ [] = drop_of_length-le (pairs ks vs) past in
    let invariant = told c.entries.rest.now (write_from (c.entries.index == 0) (flat (drop c.entries.index (pairs ks vs)))) [] c.entries.invariant (ap (λ es. write_from (c.entries.index == 0) (flat es)) none) in
    let whole = ap (λ es. write (flat (pairs ks (texts es)))) c.deref-value-items.ensures.value ∙ ap (λ es. write (flat es)) c.self.view_is in
    told c.args.text.now (write (flat (pairs ks vs))) (write (flat c.args.self.now)) (ended c.is_empty.result c.entries.rest.now c.is_empty.ensures invariant) whole
