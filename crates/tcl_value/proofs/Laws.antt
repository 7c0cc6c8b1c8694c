-- What is read of what was written.
use Rattle.std.proofs.Common.{◌≡◌, ℕ, suc, zero, Bool, true, List, [], ◌∷◌, ◌++◌, length, ℤ, FitsSigned, w64, Ok, ap, ◌∙◌, sym, false, get_or, ◌-◌, ◌<◌, refl, arith, not, IsTrue, ◌||◌}
use Rattle.std.specs.Fmt.{signed_decimal}
use Rattle.tcl_text.specs.declared.integer.Integers.{Integers}
use Rattle.tcl_text.specs.Numbers.{in_64_bits}
use Rattle.tcl_text.proofs.Written.{written_back, fits_back}
use Rattle.tcl_value.specs.Writing.{write_rest, write}
use Rattle.tcl_value.specs.Reading.{int_of, list_of, IsNoInteger}
use Rattle.tcl_value.proofs.Lasts.{last_cons}
use Rattle.tcl_value.specs.Texts.{ends_in_backslash}
use Rattle.tcl_text.specs.Lists.{is_white}
use Rattle.tcl_text.specs.Writing.{written}
use Rattle.tcl_text.proofs.Spellings.{list_from, elem_head}
use Rattle.tcl_text.proofs.Writings.{written_spells, written_elem}
use Rattle.tcl_value.proofs.Spaces.{has_word, two_words}
use Rattle.tcl_value.proofs.Written.{write_element-number, plain_signed, plain_end}
use Rattle.std.specs.Prelude.{◌==◌}

-- a number reads as itself
pub int_of-number : (style : Integers) (n : ℤ) → FitsSigned w64 n → int_of style (signed_decimal n) ≡ Ok n
int_of-number style n h = ap in_64_bits (written_back style n h) ∙ fits_back n h

-- a list reads as itself
pub list_of-write : (xs : List (List ℕ)) → list_of (write xs) ≡ Ok xs
list_of-write xs = list_from xs (write xs) (written_spells xs)

append_nil : (l : List ℕ) → l ++ [] ≡ l
append_nil [] = refl
append_nil (x ∷ l) = ap (λ m. x ∷ m) (append_nil l)

head_word : (b : ℕ) (t s rest : List ℕ) → s ≡ b ∷ t → is_white b ≡ false → has_word (s ++ rest) ≡ true
head_word b t s rest e w = ap (λ l. has_word (l ++ rest)) e ∙ ap (λ v. not v || has_word (t ++ rest)) w

-- what is written has a byte that isn't white space
word_more : (first : Bool) (x rest : List ℕ) → has_word (written first x ++ rest) ≡ true
word_more first x rest = let h = elem_head x (written first x) [] (written_elem first x []) in head_word h.0 h.1 (written first x) rest h.2 h.3

-- two elements or more are no integer
pub write-no_integer : (x y : List ℕ) (xs : List (List ℕ)) → IsNoInteger (write (x ∷ y ∷ xs))
write-no_integer x y xs style = two_words style (written true x) (written false y ++ write_rest xs) (ap has_word (sym (append_nil (written true x))) ∙ word_more true x []) (word_more false y (write_rest xs))

-- the text of a number is a list of one
pub list_of-number : (n : ℤ) → FitsSigned w64 n → list_of (signed_decimal n) ≡ Ok (signed_decimal n ∷ [])
list_of-number n h = ap list_of (sym (append_nil (signed_decimal n)) ∙ ap (λ x. x ++ []) (sym (write_element-number true n h))) ∙ list_of-write (signed_decimal n ∷ [])

pub number_end : (n : ℤ) → FitsSigned w64 n → ends_in_backslash (signed_decimal n) ≡ false
number_end n h = plain_end (signed_decimal n) (plain_signed n h).plain

pub write-empty : (xs : List (List ℕ)) → length xs ≡ 0 → [] ≡ write xs
write-empty [] h = refl
write-empty (x ∷ xs) h = absurd (omega arith)

-- the last byte
pub last_byte : (x : List ℕ) (b : ℕ) → 0 < length x → b ≡ get_or x (length x - 1) b → ends_in_backslash x ≡ (b == 92)
last_byte [] b h e = absurd (omega arith)
last_byte (c ∷ []) b h e = ap (λ d. d == 92) (sym e)
last_byte (c ∷ d ∷ x) b h e = last_byte (d ∷ x) b (omega arith) (e ∙ last_cons c d x b)

-- a byte that there is, whatever stands for one that there isn't
byte_there : (x : List ℕ) (i d e : ℕ) → i < length x → get_or x i d ≡ get_or x i e
byte_there [] i d e h = absurd (omega arith)
byte_there (b ∷ x) zero d e h = refl
byte_there (b ∷ x) (suc i) d e h = byte_there x i d e (omega arith)

pub byte_default : (x : List ℕ) (d : ℕ) → 0 < length x → get_or x (length x - 1) d ≡ get_or x (length x - 1) (get_or x (length x - 1) d)
byte_default x d h = byte_there x (length x - 1) d _ (omega arith)

pub not_true : (b : Bool) → IsTrue (not b) → b ≡ false
not_true true h = absurd (cc)
not_true false h = refl
