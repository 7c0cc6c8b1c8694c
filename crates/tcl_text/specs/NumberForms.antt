-- Integer texts and index texts by their forms.
use Rattle.std.specs.Prelude.{ℕ, ◌≡◌, ◌↔◌, ◌⊎◌, true, codes, List, [], ◌∷◌, ◌++◌, ℤ, pos, neg_ℤ}
use Rattle.std.specs.Prelude.{◌+ℤ◌, ◌-ℤ◌, Some}
use Rattle.tcl_text.specs.declared.integer.Integers.{Integers}
use Rattle.tcl_text.specs.Lists.{IsWhite}
use Rattle.tcl_text.specs.Numbers.{unsigned, integer_of, fits_64}
use Rattle.tcl_text.specs.Indexes.{base_of, offset_of, index_of}

-- n is m with this sign: none, `+` or `-`
abbrev pub IsSigned : List ℕ → ℕ → ℤ → Type 0
IsSigned [] m n = n ≡ pos m
IsSigned (c ∷ []) m n = ((c ≡ 43) × (n ≡ pos m)) ⊎ ((c ≡ 45) × (n ≡ neg_ℤ (pos m)))
IsSigned (c ∷ d ∷ cs) m n = ⊥

-- white space, a sign or none, a number without a sign, and white space
pub record IsInteger (style : Integers) (text : List ℕ) (n : ℤ) : Type 0 where
  pub before : List ℕ
  pub sign : List ℕ
  pub digits : List ℕ
  pub after : List ℕ
  pub size : ℕ
  pub parts : text ≡ before ++ (sign ++ (digits ++ after))
  pub white_before : IsWhite before
  pub white_after : IsWhite after
  pub number : unsigned style digits ≡ Some size
  pub signed : IsSigned sign size n

abbrev pub IntegersByForm : Type 0
IntegersByForm = (style : Integers) (text : List ℕ) (n : ℤ) →
    (integer_of style text ≡ Some n) ↔ IsInteger style text n

-- a number inside 64 bits, `end`, and a sum or a difference of one of these and a number without a
-- sign
pub data IsIndex (style : Integers) (end : ℤ) (text : List ℕ) (n : ℤ) : Type 0 where
  number : integer_of style text ≡ Some n → fits_64 n ≡ true → IsIndex style end text n
  word : text ≡ codes "end" → n ≡ end → IsIndex style end text n
  sum : (front back : List ℕ) (base offset : ℤ) → text ≡ front ++ 43 ∷ back →
      base_of style end front ≡ Some base → offset_of style back ≡ Some offset →
      n ≡ (base +ℤ offset) → IsIndex style end text n
  difference : (front back : List ℕ) (base offset : ℤ) → text ≡ front ++ 45 ∷ back →
      base_of style end front ≡ Some base → offset_of style back ≡ Some offset →
      n ≡ (base -ℤ offset) → IsIndex style end text n

abbrev pub IndexesByForm : Type 0
IndexesByForm = (style : Integers) (end : ℤ) (text : List ℕ) (n : ℤ) →
    (index_of style end text ≡ Some n) ↔ IsIndex style end text n
