-- What is written of a text is no shorter than the text.
use Rattle.std.proofs.Common.{arith, ℕ, ◌≤◌, Bool, true, false, cond, List, [], ◌∷◌, length, length-append}
use Rattle.std.specs.List.{flat_map}
use Rattle.tcl_text.specs.declared.list_writing.Form.{Form}
use Rattle.tcl_text.specs.declared.list_writing.Form.TheVariants.{Plain, Braced, Escaped}
use Rattle.tcl_text.specs.Writing.{is_special, letter_of, escaped_byte, hash_mark, in_form, form_of, is_comment, written}

byte_longer : (s : Bool) (b : ℕ) → 1 ≤ length (cond s (92 ∷ letter_of b ∷ []) (b ∷ []))
byte_longer true b = omega arith
byte_longer false b = omega arith

bytes_longer : (x : List ℕ) → length x ≤ length (flat_map escaped_byte x)
bytes_longer [] = omega arith
bytes_longer (b ∷ x) = omega (arith, byte_longer (is_special b) b, bytes_longer x, length-append (escaped_byte b) (flat_map escaped_byte x))

form_longer : (f : Form) (comment : Bool) (x : List ℕ) → length x ≤ length (in_form f comment x)
form_longer Plain comment x = omega arith
form_longer Braced comment x = omega (arith, length-append x (125 ∷ []))
form_longer Escaped comment x = omega (arith, bytes_longer x, length-append (hash_mark comment) (flat_map escaped_byte x))

-- an element as it is written
pub written_longer : (first : Bool) (x : List ℕ) → length x ≤ length (written first x)
unfolding written
written_longer first x = form_longer (form_of first x) (is_comment first x) x
