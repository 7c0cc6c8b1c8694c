-- The texts of elements, lists and dicts.
use Rattle.std.specs.Prelude.{◌≡◌, ℕ, ◌+◌, ◌≤◌, ◌==◌, Bool, true, false, List, [], ◌∷◌, ◌++◌}
use Rattle.std.specs.Prelude.{length, map}
use Rattle.std.specs.Fmt.{signed_decimal}
use Rattle.std.specs.Str.{bytes_eq}
use Rattle.std.specs.List.{list_any}
use Rattle.std.proofs.Common.{FitsSigned, w64, Bor}
use Rattle.tcl_value.specs.Limits.{IsWithin}
use Rattle.tcl_value.specs.Writing.{write_element, write}
use Rattle.tcl_value.specs.declared.element.Element.{Element}
use Rattle.tcl_value.specs.declared.element.Element.TheVariants.{Text, Grown, Number, List as Inner}
use Rattle.tcl_value.specs.declared.element.Element.TheVariants.{Dict}

-- keys and values in turn
abbrev pub flat : List (List ℕ × List ℕ) → List (List ℕ)
flat [] = []
flat (e ∷ es) = e.0 ∷ e.1 ∷ flat es

-- the text of an element
abbrev pub element_text : Element → List ℕ
element_text (Text text) = text
element_text (Grown grown) = grown.value
element_text (Number n) = signed_decimal n
element_text (Inner items) = write items.value
element_text (Dict entries) = write (flat entries.value)

-- the text of an element that is borrowed
abbrev pub element_shown : Bor Element → List ℕ
element_shown x = element_text x.now

-- the texts of elements
abbrev pub texts : List Element → List (List ℕ)
texts xs = map element_text xs

-- texts that values may have
abbrev pub AllWithin : List (List ℕ) → Type 0
AllWithin [] = Unit {0}
AllWithin (x ∷ xs) = IsWithin x × AllWithin xs

-- each key with the value that stands at its place
abbrev pub pairs : List (List ℕ) → List (List ℕ) → List (List ℕ × List ℕ)
pairs [] vs = []
pairs (k ∷ ks) [] = []
pairs (k ∷ ks) (v ∷ vs) = (k, v) ∷ pairs ks vs

-- whether a text ends in a backslash
abbrev pub ends_in_backslash : List ℕ → Bool
ends_in_backslash [] = false
ends_in_backslash (b ∷ []) = b == 92
ends_in_backslash (b ∷ c ∷ s) = ends_in_backslash (c ∷ s)

-- a text that is written in braces wherever it stands
pub record IsInner (x : List ℕ) : Type 0 where
  pub braced : (first : Bool) → write_element first x ≡ 123 ∷ x ++ 125 ∷ []
  pub ends : ends_in_backslash x ≡ false
  pub within : IsWithin x

-- what an element keeps is short enough, and an inner list or dict is one that is written in braces
abbrev pub IsElement : Element → Type 0
IsElement (Text text) = IsWithin text
IsElement (Grown grown) = IsWithin grown.value
IsElement (Number n) = FitsSigned w64 n
IsElement (Inner items) = IsInner (write items.value) × (2 ≤ length items.value)
IsElement (Dict entries) = IsInner (write (flat entries.value))

abbrev pub AreElements : List Element → Type 0
AreElements [] = Unit {0}
AreElements (x ∷ xs) = IsElement x × AreElements xs

-- the bytes that the elements of a list take, with one more for each
abbrev pub weight_from : Bool → List (List ℕ) → ℕ
weight_from first [] = 0
weight_from first (x ∷ xs) = length (write_element first x) + 1 + weight_from false xs

abbrev pub weight : List (List ℕ) → ℕ
weight xs = weight_from true xs

-- what holds of a list
pub record IsItems (kept : ℕ) (ts : List (List ℕ)) (xs : List Element) : Type 0 where
  pub elements : AreElements xs
  pub weighs : kept ≡ weight ts

-- No key stands twice.
abbrev pub AreDistinct : List (List ℕ) → Type 0
AreDistinct [] = Unit {0}
AreDistinct (k ∷ ks) = (list_any (bytes_eq k) ks ≡ false) × AreDistinct ks

-- what holds of a dict
pub record IsEntries (kept : ℕ) (ks : List (List ℕ)) (ts : List (List ℕ)) (xs : List Element) : Type
    0 where
  pub keys : AllWithin ks
  pub distinct : AreDistinct ks
  pub elements : AreElements xs
  pub same : length ks ≡ length xs
  pub weighs : kept ≡ weight (flat (pairs ks ts))

-- a clone of an element has its text, and keeps what may be kept
pub record IsSame (x y : Element) : Type 0 where
  pub text : element_text y ≡ element_text x
  pub keeps : IsElement x → IsElement y
