use Rattle.std.proofs.Common.{◌≡◌, ◌∙◌, refl, sym, subst, ap, arith, length, ◌+◌, ◌*◌, ◌<◌, get_or, true, false}
use Rattle.tcl_value.specs.Writing.{write}
use Rattle.tcl_value.specs.Texts.{element_text, texts, flat, IsElement}
use Rattle.tcl_value.proofs.Weights.{texts-get, length-texts, AreElements-get}
use Rattle.tcl_value.proofs.Falling.{deep_within, deep_value, drop_step, write_same, flat_same, turned, between, entries_step, pairs_count}
use Rattle.tcl_value.proofs.+same.Goals as goal

pub element::Element::same-returns-in-List-List : goal.element::Element::same-returns-in-List-List
element::Element::same-returns-in-List-List t c =
    let a = c.deref-in-List-List.result.now in
    let b = c.deref-in-List-List-2.result.now in
    between (write a) (write b) (element_text c.args.self.now) (element_text c.args.other.now) (write_same a b c.same.ensures)
    (ap element_text c.in-List-List.is-0 ∙ ap write (sym c.deref-in-List-List.ensures)) (ap element_text c.in-List-List.is-1 ∙ ap write (sym c.deref-in-List-List-2.ensures))

pub element::Element::same-returns-in-List-Dict : goal.element::Element::same-returns-in-List-Dict
element::Element::same-returns-in-List-Dict t c =
    let a = c.deref-in-List-Dict.result.now in
    let b = c.deref-in-List-Dict-2.result.now in
    between (write a) (write (flat b)) (element_text c.args.self.now) (element_text c.args.other.now) (write_same a (flat b) c.same_entries.ensures)
    (ap element_text c.in-List-Dict.is-0 ∙ ap write (sym c.deref-in-List-Dict.ensures)) (ap element_text c.in-List-Dict.is-1 ∙ ap (λ es. write (flat es)) (sym c.deref-in-List-Dict-2.ensures))

pub element::Element::same-returns-in-Dict-List : goal.element::Element::same-returns-in-Dict-List
element::Element::same-returns-in-Dict-List t c =
    let a = c.deref-in-Dict-List.result.now in
    let b = c.deref-in-Dict-List-2.result.now in
    between (write (flat b)) (write a) (element_text c.args.self.now) (element_text c.args.other.now) (turned (write a) (write (flat b)) (write_same a (flat b) c.same_entries-in-Dict-List.ensures))
    (ap element_text c.in-Dict-List.is-0 ∙ ap (λ es. write (flat es)) (sym c.deref-in-Dict-List-2.ensures)) (ap element_text c.in-Dict-List.is-1 ∙ ap write (sym c.deref-in-Dict-List.ensures))

pub element::Element::same-returns-in-Dict-Dict : goal.element::Element::same-returns-in-Dict-Dict
element::Element::same-returns-in-Dict-Dict t c =
    let a = c.deref-in-Dict-Dict.result.now in
    let b = c.deref-in-Dict-Dict-2.result.now in
    between (write (flat a)) (write (flat b)) (element_text c.args.self.now) (element_text c.args.other.now) (write_same (flat a) (flat b) (flat_same a b c.same-in-Dict-Dict.ensures))
    (ap element_text c.in-Dict-Dict.is-0 ∙ ap (λ es. write (flat es)) (sym c.deref-in-Dict-Dict.ensures)) (ap element_text c.in-Dict-Dict.is-1 ∙ ap (λ es. write (flat es)) (sym c.deref-in-Dict-Dict-2.ensures))

pub entries::Entries::same-same-requires : goal.entries::Entries::same-same-requires
entries::Entries::same-same-requires t c =
    let own = deep_value c.args.self.now c.entries.index c.value.result.now c.value.ensures.element (omega arith) c.value.ensures.text in
    let other = deep_value c.args.other.now c.entries.index c.value-in-entries.result.now c.value-in-entries.ensures.element (omega arith) c.value-in-entries.ensures.text in
    (omega arith, (c.value.ensures.element, c.value-in-entries.ensures.element))

pub entries::Entries::same-entries-preserved : goal.entries::Entries::same-entries-preserved
entries::Entries::same-entries-preserved t c =
    entries_step c.args.self.now c.args.other.now c.entries.index c.key.result.now (element_text c.value.result.now) c.key-in-entries.result.now (element_text c.value-in-entries.result.now)
    (omega arith) (omega arith) c.key.ensures.key c.value.ensures.text c.key-in-entries.ensures.key c.value-in-entries.ensures.text c.if-ne.ensures (c.if-not-same.ensures.0 refl) c.entries.invariant

pub items::Items::same-same-requires : goal.items::Items::same-same-requires
items::Items::same-same-requires t c =
    let same : c.deref-element-items.result.now ≡ c.self.inside.elements.items = c.deref-element-items.ensures.value in
    let here : c.elements.index < length c.self.inside.elements.items = omega (arith, ap length same) in
    let item : c.element-item.result ≡ get_or c.self.inside.elements.items c.elements.index c.element-item.result = c.element-item.is ∙ ap (λ xs. get_or xs c.elements.index c.element-item.result) same in
    let is_element = subst IsElement (sym item) (AreElements-get _ c.elements.index c.element-item.result c.self.invariant.elements here) in
    let text : element_text c.element-item.result ≡ get_or c.args.self.now c.elements.index (element_text c.element-item.result) = ap element_text item ∙ texts-get c.self.inside.elements.items c.elements.index c.element-item.result ∙ ap (λ xs. get_or xs c.elements.index (element_text c.element-item.result)) c.self.view_is in
    let long : c.elements.index < length c.args.self.now = omega (arith, length-texts c.self.inside.elements.items, ap length c.self.view_is) in
    let own = deep_within c.args.self.now c.elements.index c.element-item.result is_element long text in
    let other = deep_within c.args.other.now c.elements.index c.get.result.now c.get.ensures.element (omega (arith, c.len.ensures, c.len-2.ensures)) c.get.ensures.text in
    (omega arith, (is_element, c.get.ensures.element))

pub items::Items::same-elements-preserved : goal.items::Items::same-elements-preserved
items::Items::same-elements-preserved t c =
    let xs = texts c.deref-element-items.result.now in
    let x = element_text c.element-item.result in
    let text : x ≡ get_or xs c.elements.index x = ap element_text c.element-item.is ∙ texts-get c.deref-element-items.result.now c.elements.index c.element-item.result in
    let lengths = ap length c.self.view_is in
    let same = ap length c.deref-element-items.ensures.value in
    drop_step xs c.args.other.now c.elements.index x (element_text c.get.result.now) (omega (arith, length-texts c.deref-element-items.result.now)) (omega (arith, length-texts c.self.inside.elements.items)) text c.get.ensures.text (c.if-not-same.ensures.0 refl) c.elements.invariant

pub items::Items::same_entries-same-requires : goal.items::Items::same_entries-same-requires
items::Items::same_entries-same-requires t c =
    let own = deep_within c.args.self.now (2 * c.entries.index + 1) c.get-in-entries.result.now c.get-in-entries.ensures.element (omega arith) c.get-in-entries.ensures.text in
    let other = deep_value c.args.entries.now c.entries.index c.value.result.now c.value.ensures.element (omega arith) c.value.ensures.text in
    (omega arith, (c.get-in-entries.ensures.element, c.value.ensures.element))

pub items::Items::same_entries-returns-then-len-eq1 : goal.items::Items::same_entries-returns-then-len-eq1
items::Items::same_entries-returns-then-len-eq1 t c =
    (λ f. absurd (let n : false ≡ true = f in cc), λ e. absurd (let h = pairs_count c.args.self.now c.args.entries.now c.len.result c.len.ensures e in omega (arith, h.0)))

pub items::Items::same_entries-returns-then-len : goal.items::Items::same_entries-returns-then-len
items::Items::same_entries-returns-then-len t c =
    (λ f. absurd (let n : false ≡ true = f in cc), λ e. absurd (let h = pairs_count c.args.self.now c.args.entries.now c.len-2.result c.len-2.ensures e in omega (arith, h.1, c.len-3.ensures)))
