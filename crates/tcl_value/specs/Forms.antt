-- The text of a value, by the form in which it is kept.
use Rattle.std.specs.Prelude.{◌≡◌, ℕ, ◌≤◌, List, [], length}
use Rattle.std.specs.Fmt.{signed_decimal}
use Rattle.std.proofs.Common.{FitsSigned, w64}
use Rattle.tcl_value.specs.Limits.{IsWithin}
use Rattle.tcl_value.specs.Writing.{write}
use Rattle.tcl_value.specs.Texts.{flat}
use Rattle.tcl_value.specs.declared.value.Form.{Form}
use Rattle.tcl_value.specs.declared.value.Form.TheVariants.{Empty, Text, Number, List as Items}
use Rattle.tcl_value.specs.declared.value.Form.TheVariants.{Dict as Entries, Read}

-- the text of a form
abbrev pub form_text : Form → List ℕ
form_text Empty = []
form_text (Text text) = text
form_text (Number n) = signed_decimal n
form_text (Items items) = write items.value
form_text (Entries entries) = write (flat entries.value)
form_text (Read read) = read.value

-- what a form keeps is within the limit of a value, and a list is one that no number or single
-- element writes
abbrev pub IsForm : Form → Type 0
IsForm Empty = Unit {0}
IsForm (Text text) = IsWithin text
IsForm (Number n) = FitsSigned w64 n
IsForm (Items items) = IsWithin (write items.value) × (2 ≤ length items.value)
IsForm (Entries entries) = IsWithin (write (flat entries.value))
IsForm (Read read) = IsWithin read.value

-- a clone of a form has its text, and keeps what may be kept
pub record IsSameForm (x y : Form) : Type 0 where
  pub text : form_text y ≡ form_text x
  pub keeps : IsForm x → IsForm y
