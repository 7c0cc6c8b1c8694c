-- The inner lists are smaller.
use Rattle.std.specs.Prelude.{◌≡◌, ℕ, ◌+◌, ◌<◌, ◌≤◌, Bool, true, false, List, [], ◌∷◌, ◌++◌, length}
use Rattle.std.proofs.Common.{arith, length-append, ap, get_or}
use denote.Param.Weighed.{most, at_most}
use Rattle.tcl_value.specs.Writing.{write_element, write_rest, write}
use Rattle.tcl_value.specs.Texts.{flat, texts, pairs, AreElements, IsElement, IsItems, IsEntries}
use Rattle.tcl_value.specs.Texts.{element_text}
use Rattle.tcl_value.specs.declared.element.Element.{Element}
use Rattle.tcl_value.specs.declared.element.Element.TheVariants.{Text, Grown, Number, List as Inner}
use Rattle.tcl_value.specs.declared.element.Element.TheVariants.{Dict}
use Rattle.tcl_value.specs.declared.entries.Entries.TheDeep.{deep-Element}

braced_length : (x : List ℕ) → length (123 ∷ x ++ 125 ∷ []) ≡ length x + 2
braced_length x = omega (arith, length-append x (125 ∷ []))

element_falls : (first : Bool) (x : Element) → IsElement x →
    deep-Element x ≤ length (write_element first (element_text x))
element_falls first (Text t) h = omega arith
element_falls first (Grown t) h = omega arith
element_falls first (Number m) h = omega arith
element_falls first (Inner l) h = omega
    (arith, ap length (h.0.braced first), braced_length (write l.value))
element_falls first (Dict l) h = omega
    (arith, ap length (h.braced first), braced_length (write (flat l.value)))

rest_falls : (xs : List Element) → AreElements xs →
    most deep-Element xs ≤ length (write_rest (texts xs))
rest_falls [] h = omega arith
rest_falls (x ∷ xs) h = omega (
  arith,
  element_falls false x h.0,
  rest_falls xs h.1,
  length-append
      (write_element false (element_text x)) (write_rest (texts xs)),
)

pub items_fall : (kept : ℕ) (xs : List Element) → IsItems kept (texts xs) xs →
    most deep-Element xs ≤ length (write (texts xs))
items_fall kept [] h = omega arith
items_fall kept (x ∷ xs) h = omega (
  arith,
  element_falls true x h.elements.0,
  rest_falls xs h.elements.1,
  length-append
      (write_element true (element_text x)) (write_rest (texts xs)),
)

values_fall : (ks : List (List ℕ)) (xs : List Element) → AreElements xs → length ks ≡ length xs →
    most deep-Element xs ≤ length (write_rest (flat (pairs ks (texts xs))))
values_fall ks [] h e = omega arith
values_fall [] (x ∷ xs) h e = absurd (omega arith)
values_fall (k ∷ ks) (x ∷ xs) h e = omega (
  arith,
  element_falls false x h.0,
  values_fall ks xs h.1 (omega arith),
  length-append
      (write_element false k) (write_rest (element_text x ∷ flat (pairs ks (texts xs)))),
  length-append (write_element false (element_text x)) (write_rest (flat (pairs ks (texts xs)))),
)

pub entries_fall : (kept : ℕ) (ks : List (List ℕ)) (xs : List Element) →
    IsEntries kept ks (texts xs) xs →
    most deep-Element xs ≤ length (write (flat (pairs ks (texts xs))))
entries_fall kept ks [] h = omega arith
entries_fall kept [] (x ∷ xs) h = absurd (omega (arith, h.same))
entries_fall kept (k ∷ ks) (x ∷ xs) h = omega (
  arith,
  element_falls false x h.elements.0,
  values_fall ks xs h.elements.1
      (omega (arith, h.same)),
  length-append (write_element true k)
      (write_rest (element_text x ∷ flat (pairs ks (texts xs)))),
  length-append
      (write_element false (element_text x)) (write_rest (flat (pairs ks (texts xs)))),
)

pub item_falls : (kept : ℕ) (xs : List Element) (i : ℕ) (d : Element) → IsItems kept (texts xs) xs →
    i < length xs → deep-Element (get_or xs i d) ≤ length (write (texts xs))
item_falls kept xs i d h k = omega (arith, items_fall kept xs h, at_most deep-Element xs i d k)

pub value_falls : (kept : ℕ) (ks : List (List ℕ)) (xs : List Element) (i : ℕ) (d : Element) →
    IsEntries kept ks (texts xs) xs → i < length xs →
    deep-Element (get_or xs i d) ≤ length (write (flat (pairs ks (texts xs))))
value_falls kept ks xs i d h k = omega
    (arith, entries_fall kept ks xs h, at_most deep-Element xs i d k)
