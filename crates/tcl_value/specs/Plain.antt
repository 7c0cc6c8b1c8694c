-- Lists whose elements are written as they are.
use Rattle.std.specs.Prelude.{◌≡◌, ℕ, ◌<◌, ◌==◌, Bool, true, false, not, ◌&&◌, List, [], ◌∷◌}
use Rattle.std.specs.Prelude.{length}
use Rattle.std.specs.Char.{is_ascii}
use Rattle.std.specs.List.{list_all}
use Rattle.std.specs.Str.{IsAscii}
use Rattle.tcl_text.specs.Writing.{is_special, has_special, begins_with_hash}
use Rattle.tcl_value.specs.declared.element.Element.{Element}
use Rattle.tcl_value.specs.declared.element.Element.TheVariants.{Text, Grown, Number, List as Inner}
use Rattle.tcl_value.specs.declared.element.Element.TheVariants.{Dict}

-- a text that is written as it is anywhere in a list, and is ASCII
pub record IsPlain (x : List ℕ) : Type 0 where
  pub some : 0 < length x
  pub ascii : IsAscii x
  pub plain : has_special x ≡ false
  pub hash : begins_with_hash x ≡ false

-- each element of a list is such a text
abbrev pub ArePlain : List (List ℕ) → Type 0
ArePlain [] = Unit {0}
ArePlain (x ∷ xs) = IsPlain x × ArePlain xs

-- the bytes and the texts that pass for such
abbrev pub is_plain_byte : ℕ → Bool
is_plain_byte b = not (is_special b) && is_ascii b

abbrev pub is_plain : List ℕ → Bool
is_plain [] = false
is_plain (b ∷ x) = not (b == 35) && list_all is_plain_byte (b ∷ x)

-- the elements that do, in the forms that are looked at
abbrev pub is_plain_element : Element → Bool
is_plain_element (Text text) = is_plain text
is_plain_element (Grown grown) = false
is_plain_element (Number n) = true
is_plain_element (Inner items) = false
is_plain_element (Dict entries) = false
