use Rattle.std.proofs.Common.{arith, ℕ, List, ◌∷◌, ◌<◌, ◌^◌, sym, ap, subst, length, refl}
use Rattle.std.specs.Bool.{OnTrue}
use Rattle.tcl_value.specs.Writing.{write}
use Rattle.tcl_value.specs.Texts.{element_text, flat, IsElement}
use Rattle.tcl_value.specs.Dicts.{Pairs}
use Rattle.tcl_value.specs.declared.element.Element.TheVariants.{Dict}
use Rattle.tcl_value.specs.Inside.{entry_changed, InnerChange, DictChange}
use Rattle.tcl_value.proofs.Weights.{AreElements-get}
use Rattle.tcl_value.proofs.Entered.{entry_many, entries_few, entries_set, value_at}
use Rattle.tcl_value.proofs.Inside.{text_kept, change_true}
use Rattle.tcl_value.proofs.InsideDicts.{dict_kept, entries_kept, entry_weight, entries_changed, change_inside, value_within, inner_change, inner_stays}
use Rattle.tcl_value.proofs.+change.Goals as goal

pub entries::Entries::change_deeper-index_mut-inner-requires : goal.entries::Entries::change_deeper-index_mut-inner-requires
entries::Entries::change_deeper-index_mut-inner-requires t c =
    omega (arith, entry_many c.self.inside.keys.keys c.self.inside.values.items c.args.self.now c.self.invariant.same c.self.view_is, c.self.inside.values.ok.0, c.in-Some.ensures.1)

pub entries::Entries::change_deeper-change-requires : goal.entries::Entries::change_deeper-change-requires
entries::Entries::change_deeper-change-requires t c =
    let xs = c.self.inside.values.items in
    let x = c.index_mut-inner.result.now in
    let many = entry_many c.self.inside.keys.keys xs c.args.self.now c.self.invariant.same c.self.view_is in
    let here : c.in-Some.index < length xs = omega (arith, many, c.in-Some.ensures.1) in
    let text = value_at c.self.inside.keys.keys xs c.args.self.now c.in-Some.index x c.self.invariant.same c.self.view_is c.index_mut-inner.ensures.value in (
      omega arith,
      (
        subst IsElement (sym c.index_mut-inner.ensures.value) (AreElements-get xs c.in-Some.index x c.self.invariant.elements here),
        (
          c.requires.change,
          value_within c.args.self.now c.in-Some.index (element_text x) c.args.room 16777216 c.in-Some.ensures.1 text c.requires.room,
        ),
      ),
    )

pub entries::Entries::change_deeper-invariant_of-self : goal.entries::Entries::change_deeper-invariant_of-self
entries::Entries::change_deeper-invariant_of-self t c =
    dict_kept c.self.inside.weight c.self.inside.keys.keys c.self.inside.values.items c.args.self.now c.in-Some.index c.index_mut-inner.result.now c.change.new.self c.self.invariant c.self.view_is c.in-Some.ensures.1 c.index_mut-inner.ensures.value
    (text_kept c.change.result (element_text c.index_mut-inner.result.now) (element_text c.change.new.self) c.if-not-change.true c.change.ensures.unchanged) c.change.ensures.element

pub entries::Entries::change_deeper-returns-then-not-change-clause-unchanged : goal.entries::Entries::change_deeper-returns-then-not-change-clause-unchanged
entries::Entries::change_deeper-returns-then-not-change-clause-unchanged t c =
    entries_kept c.self.inside.keys.keys c.self.inside.values.items c.args.self.now c.in-Some.index c.index_mut-inner.result.now c.change.new.self c.self.invariant.same c.self.view_is c.in-Some.ensures.1 c.index_mut-inner.ensures.value
    (text_kept c.change.result (element_text c.index_mut-inner.result.now) (element_text c.change.new.self) c.if-not-change.true c.change.ensures.unchanged)

pub entries::Entries::change_deeper-overflow_add-self : goal.entries::Entries::change_deeper-overflow_add-self
entries::Entries::change_deeper-overflow_add-self t c =
    let few : c.self.inside.weight < 2 ^ 91 = entries_few _ _ _ c.self.inside.keys.keys c.self.inside.values.items c.self.invariant c.self.inside.values.ok.0 c.self.inside.values.ok.1 c.self.inside.values.small in
    omega (arith, c.written_len-more.ensures.few)

pub entries::Entries::change_deeper-overflow_sub-self : goal.entries::Entries::change_deeper-overflow_sub-self
entries::Entries::change_deeper-overflow_sub-self t c =
    omega (
      arith,
      entry_weight c.self.inside.keys.keys c.self.inside.values.items c.args.self.now c.in-Some.index (element_text c.value.result.now) c.index_mut-inner.result.now (element_text c.change.new.self) c.self.inside.weight c.written_len-less.result c.written_len-more.result
          c.self.invariant c.self.view_is c.in-Some.ensures.1 c.value.ensures.text c.index_mut-inner.ensures.value c.written_len-less.ensures.len c.written_len-more.ensures.len,
    )

pub entries::Entries::change_deeper-invariant_of-self-2 : goal.entries::Entries::change_deeper-invariant_of-self-2
entries::Entries::change_deeper-invariant_of-self-2 t c =
    entries_changed c.self.inside.keys.keys c.self.inside.values.items c.args.self.now c.in-Some.index c.change.new.self c.self.inside.weight _ c.written_len-less.result c.written_len-more.result c.self.invariant c.self.view_is c.change.ensures.element refl
    (entry_weight c.self.inside.keys.keys c.self.inside.values.items c.args.self.now c.in-Some.index (element_text c.value.result.now) c.index_mut-inner.result.now (element_text c.change.new.self) c.self.inside.weight c.written_len-less.result c.written_len-more.result
    c.self.invariant c.self.view_is c.in-Some.ensures.1 c.value.ensures.text c.index_mut-inner.ensures.value c.written_len-less.ensures.len c.written_len-more.ensures.len)

pub entries::Entries::change_deeper-returns-clause-change : goal.entries::Entries::change_deeper-returns-clause-change
entries::Entries::change_deeper-returns-clause-change t c =
    let ks = c.self.inside.keys.keys in
    let xs = c.self.inside.values.items in
    let x = c.index_mut-inner.result.now in
    let text = value_at ks xs c.args.self.now c.in-Some.index x c.self.invariant.same c.self.view_is c.index_mut-inner.ensures.value in
    subst (λ (z : Pairs). DictChange (c.args.key.now ∷ c.args.path.now) c.args.change c.args.room c.args.self.now z) (sym (entries_set ks xs c.args.self.now c.in-Some.index c.change.new.self c.self.invariant.same c.self.view_is))
    (change_inside c.args.key.now c.args.path.now c.args.change (element_text x) (element_text c.change.new.self) c.args.room c.in-Some.index c.args.self.now c.reads_back.ensures c.in-Some.ensures text
    (change_true c.change.result _ c.args.room (element_text x) (element_text c.change.new.self) c.if-not-change.false c.change.ensures.change))

pub element::Element::change-returns-in-Dict-clause-change : goal.element::Element::change-returns-in-Dict-clause-change
element::Element::change-returns-in-Dict-clause-change t c =
    let own : IsElement (Dict c.in-Dict.entries) = subst IsElement c.in-Dict.is c.requires.own in
    let text = ap element_text c.in-Dict.is in
    let long = ap length text in
    subst (λ (z : List ℕ). OnTrue c.change_shared.result (InnerChange (entry_changed c.args.path.now c.args.change z) c.args.room z (write (flat c.change_shared.new.entries.value)))) (sym text)
    (inner_change c.change_shared.result c.in-Dict.entries.value c.change_shared.new.entries.value c.args.path.now c.args.change c.args.room own (omega (arith, c.requires.room)) c.change_shared.ensures.change)

pub element::Element::change-returns-in-Dict-clause-element : goal.element::Element::change-returns-in-Dict-clause-element
element::Element::change-returns-in-Dict-clause-element t c =
    let own : IsElement (Dict c.in-Dict.entries) = subst IsElement c.in-Dict.is c.requires.own in
    let long = ap length (ap element_text c.in-Dict.is) in
    inner_stays c.change_shared.result c.in-Dict.entries.value c.change_shared.new.entries.value c.args.path.now c.args.change c.args.room own (omega (arith, c.requires.room)) c.change_shared.ensures.change c.change_shared.ensures.unchanged
