use Rattle.std.proofs.Common.{arith, ◌≡◌, ℕ, List, ◌∷◌, ◌<◌, ◌^◌, ◌∙◌, sym, ap, subst, length, get_or, set, refl}
use Rattle.std.specs.Prelude.{◌==◌}
use Rattle.std.specs.Bool.{OnTrue}
use Rattle.tcl_value.specs.Writing.{write}
use Rattle.tcl_value.specs.Texts.{element_text, texts, IsElement}
use Rattle.tcl_value.specs.declared.element.Element.TheVariants.{List as Inner}
use Rattle.tcl_value.specs.Inside.{element_put, InnerChange, ListPut}
use Rattle.tcl_value.proofs.Weights.{kept_few, length-texts, texts-get, texts-set, AreElements-get}
use Rattle.tcl_value.proofs.Inside.{part_within, items_kept, texts_kept, deeper_weight, put_inside, items_changed, text_kept, change_true, inner_put, inner_stays}
use Rattle.tcl_value.proofs.+put.Goals as goal

pub items::Items::put_deeper-written_len-less-requires : goal.items::Items::put_deeper-written_len-less-requires
items::Items::put_deeper-written_len-less-requires t c =
    let here : c.args.place < length c.self.inside.elements.items = omega arith in
    subst IsElement (sym c.index.ensures) (AreElements-get c.self.inside.elements.items c.args.place c.index.result.now c.self.invariant.elements here)

pub items::Items::put_deeper-put-requires : goal.items::Items::put_deeper-put-requires
items::Items::put_deeper-put-requires t c =
    let xs = texts c.self.inside.elements.items in
    let x = c.index_mut-inner.result.now in
    let here : c.args.place < length c.self.inside.elements.items = omega arith in
    let same : x ≡ get_or c.self.inside.elements.items c.args.place x = c.index_mut-inner.ensures.value in
    let text : element_text x ≡ get_or xs c.args.place (element_text x) = ap element_text same ∙ texts-get c.self.inside.elements.items c.args.place x in
    let long = ap (λ z. length (write z)) c.self.view_is in
    let part = part_within xs c.args.place (element_text x) c.args.room 16777216 (omega (arith, length-texts c.self.inside.elements.items)) (omega (arith, c.requires.room)) in
    let size = ap length text in
    (omega arith, (subst IsElement (sym same) (AreElements-get c.self.inside.elements.items c.args.place x c.self.invariant.elements here), (c.requires.element, (c.requires.ends, omega arith))))

pub items::Items::put_deeper-invariant_of-self : goal.items::Items::put_deeper-invariant_of-self
items::Items::put_deeper-invariant_of-self t c =
    items_kept c.self.inside.weight c.self.inside.elements.items c.args.place c.index_mut-inner.result.now c.put.new.self c.self.invariant c.index_mut-inner.ensures.value
    (text_kept c.put.result (element_text c.index_mut-inner.result.now) (element_text c.put.new.self) c.if-not-put.true c.put.ensures.unchanged) c.put.ensures.element

few : (t : ℕ) (c : goal.items::Items::put_deeper-After-self-2-1 t) → c.self.inside.weight < 2 ^ 90
few t c = kept_few _ _ _ _ c.self.invariant.weighs c.self.invariant.elements c.self.inside.elements.ok.0 c.self.inside.elements.ok.1 c.self.inside.elements.small

pub items::Items::put_deeper-invariant_of-self-2 : goal.items::Items::put_deeper-invariant_of-self-2
items::Items::put_deeper-invariant_of-self-2 t c =
    items_changed c.self.inside.weight _ c.self.inside.elements.items c.args.place c.put.new.self c.written_len-less.result c.written_len-more.result c.self.invariant c.put.ensures.element refl
    (deeper_weight c.self.inside.elements.items c.args.place c.index.result.now c.index_mut-inner.result.now c.put.new.self c.index-2.result.now c.self.inside.weight c.written_len-less.result c.written_len-more.result (c.args.place == 0)
    c.self.invariant.weighs (omega arith) refl c.index.ensures c.index_mut-inner.ensures.value c.index-2.ensures c.written_len-less.ensures.len c.written_len-more.ensures.len)

pub items::Items::put_deeper-returns-then-not-put-clause-unchanged : goal.items::Items::put_deeper-returns-then-not-put-clause-unchanged
items::Items::put_deeper-returns-then-not-put-clause-unchanged t c =
    texts_kept c.self.inside.elements.items c.args.place c.index_mut-inner.result.now c.put.new.self c.index_mut-inner.ensures.value
    (text_kept c.put.result (element_text c.index_mut-inner.result.now) (element_text c.put.new.self) c.if-not-put.true c.put.ensures.unchanged) ∙ c.self.view_is

pub items::Items::put_deeper-overflow_sub-self : goal.items::Items::put_deeper-overflow_sub-self
items::Items::put_deeper-overflow_sub-self t c =
    omega (
      arith,
      deeper_weight c.self.inside.elements.items c.args.place c.index.result.now c.index_mut-inner.result.now c.put.new.self c.index-2.result.now c.self.inside.weight c.written_len-less.result c.written_len-more.result (c.args.place == 0)
          c.self.invariant.weighs (omega arith) refl c.index.ensures c.index_mut-inner.ensures.value c.index-2.ensures c.written_len-less.ensures.len c.written_len-more.ensures.len,
    )

pub items::Items::put_deeper-overflow_add-self : goal.items::Items::put_deeper-overflow_add-self
items::Items::put_deeper-overflow_add-self t c = omega (arith, few t c, c.written_len-more.ensures.few)

pub items::Items::put_deeper-returns-clause-put : goal.items::Items::put_deeper-returns-clause-put
items::Items::put_deeper-returns-clause-put t c =
    let xs = c.self.inside.elements.items in
    let x = c.index_mut-inner.result.now in
    let here : c.args.place < length (texts xs) = omega (arith, length-texts xs) in
    let text : element_text x ≡ get_or (texts xs) c.args.place (element_text x) = ap element_text c.index_mut-inner.ensures.value ∙ texts-get xs c.args.place x in
    let put = put_inside (texts xs) c.args.place c.args.path.now (element_text c.args.element) (element_text x) (element_text c.put.new.self) c.args.room here text
    (change_true c.put.result _ c.args.room (element_text x) (element_text c.put.new.self) c.if-not-put.false c.put.ensures.put) in
    subst (λ (z : List (List ℕ)). ListPut (c.args.place ∷ c.args.path.now) (element_text c.args.element) c.args.room z (texts (set xs c.args.place c.put.new.self))) c.self.view_is
    (subst (λ (z : List (List ℕ)). ListPut (c.args.place ∷ c.args.path.now) (element_text c.args.element) c.args.room (texts xs) z) (sym (texts-set xs c.args.place c.put.new.self)) put)

pub element::Element::put-returns-in-List-clause-put : goal.element::Element::put-returns-in-List-clause-put
element::Element::put-returns-in-List-clause-put t c =
    let own : IsElement (Inner c.in-List.items) = subst IsElement c.in-List.is c.requires.own in
    let text = ap element_text c.in-List.is in
    let long = ap length text in
    subst (λ (z : List ℕ). OnTrue c.put_inner.result (InnerChange (element_put c.args.path.now (element_text c.args.element) z) c.args.room z (write c.put_inner.new.items.value))) (sym text)
    (inner_put c.put_inner.result c.in-List.items.value c.put_inner.new.items.value c.args.path.now (element_text c.args.element) c.args.room own.0 own.1 (omega (arith, c.requires.room)) c.put_inner.ensures.put)

pub element::Element::put-returns-in-List-clause-element : goal.element::Element::put-returns-in-List-clause-element
element::Element::put-returns-in-List-clause-element t c =
    let own : IsElement (Inner c.in-List.items) = subst IsElement c.in-List.is c.requires.own in
    let long = ap length (ap element_text c.in-List.is) in
    inner_stays c.put_inner.result c.in-List.items.value c.put_inner.new.items.value c.args.path.now (element_text c.args.element) c.args.room own.0 own.1 (omega (arith, c.requires.room)) c.put_inner.ensures.put c.put_inner.ensures.unchanged
