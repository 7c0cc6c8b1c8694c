-- Integer texts, as whole numbers of any size.
use Rattle.std.specs.Prelude.{ℕ, ◌+◌, ◌*◌, ◌^◌, ◌≤◌, ◌≡◌, ◌==◌, ◌&&◌, ◌||◌, nat_lt, Bool, true}
use Rattle.std.specs.Prelude.{false, if◌then◌else◌, List, [], ◌∷◌, length, ℤ, pos, negsuc, neg_ℤ}
use Rattle.std.specs.Prelude.{Option, None, Some, option_map, Result, Ok, Err}
use Rattle.std.specs.Char.{digit_value}
use Rattle.tcl_text.specs.Lists.{is_white}
use Rattle.tcl_text.specs.declared.integer.Integers.{Integers}
use Rattle.tcl_text.specs.declared.integer.Integers.TheVariants.{Tcl8, Tcl9}
use Rattle.tcl_text.specs.declared.integer.IntegerFault.{IntegerFault}
use Rattle.tcl_text.specs.declared.integer.IntegerFault.TheVariants.{NotInteger, TooLarge}

-- ---- white space

-- a text without the white space that it begins with
abbrev pub trim_start : List ℕ → List ℕ
trim_start [] = []
trim_start (c ∷ cs) = if is_white c then trim_start cs else c ∷ cs

-- a character before a text of which the white space at the end is gone
abbrev pub before_trimmed : ℕ → List ℕ → List ℕ
before_trimmed c [] = if is_white c then [] else c ∷ []
before_trimmed c (d ∷ ds) = c ∷ d ∷ ds

-- a text without the white space that it ends with
abbrev pub trim_end : List ℕ → List ℕ
trim_end [] = []
trim_end (c ∷ cs) = before_trimmed c (trim_end cs)

-- ---- digits

-- each character is a digit of the base
abbrev pub are_digits : ℕ → List ℕ → Bool
are_digits base [] = true
are_digits base (c ∷ cs) = nat_lt (digit_value c) base && are_digits base cs

-- the sum of the digits, each times the power of the base at its place
abbrev pub sum_of_digits : ℕ → List ℕ → ℕ
sum_of_digits base [] = 0
sum_of_digits base (c ∷ cs) = digit_value c * base ^ length cs + sum_of_digits base cs

-- the number that one digit or more of a base write
abbrev pub in_base : ℕ → List ℕ → Option ℕ
in_base base [] = None
in_base base (c ∷ cs) = if are_digits base (c ∷ cs) then Some (sum_of_digits base (c ∷ cs))
    else None

-- ---- integer texts

-- whether a character is this lower case letter, in either case
abbrev pub is_letter : ℕ → ℕ → Bool
is_letter lower c = c == lower || c + 32 == lower

-- the base of a number of more than one digit that begins with 0
abbrev pub base_after_zero : Integers → ℕ
base_after_zero Tcl8 = 8
base_after_zero Tcl9 = 10

-- a number that begins with 0 and c: `0x`, `0o` and `0b` stand before digits of that base
abbrev pub after_zero : Integers → ℕ → List ℕ → Option ℕ
after_zero style c cs =
    if is_letter 120 c then in_base 16 cs
    else if is_letter 111 c then in_base 8 cs
    else if is_letter 98 c then in_base 2 cs
    else in_base (base_after_zero style) (48 ∷ c ∷ cs)

-- the number of a text with neither sign nor white space
abbrev pub unsigned : Integers → List ℕ → Option ℕ
unsigned style [] = None
unsigned style (c ∷ []) = in_base 10 (c ∷ [])
unsigned style (c ∷ d ∷ ds) = if c == 48 then after_zero style d ds else in_base 10 (c ∷ d ∷ ds)

-- a number with its sign
abbrev pub with_sign : Bool → ℕ → ℤ
with_sign true n = neg_ℤ (pos n)
with_sign false n = pos n

-- the number of a text without white space, where a sign may stand first
abbrev pub signed : Integers → List ℕ → Option ℤ
signed style [] = None
signed style (c ∷ cs) =
    if c == 45 then option_map (with_sign true) (unsigned style cs)
    else if c == 43 then option_map (with_sign false) (unsigned style cs)
    else option_map (with_sign false) (unsigned style (c ∷ cs))

-- the number of an integer text, which may have white space on both sides
abbrev pub integer_of : Integers → List ℕ → Option ℤ
integer_of style text = signed style (trim_end (trim_start text))

-- whether a number fits 64 bits
abbrev pub fits_64 : ℤ → Bool
fits_64 (pos n) = nat_lt n (2 ^ 63)
fits_64 (negsuc n) = nat_lt n (2 ^ 63)

-- what reading gives: the number where there is one and it fits 64 bits
abbrev pub in_64_bits : Option ℤ → Result ℤ IntegerFault
in_64_bits None = Err NotInteger
in_64_bits (Some n) = if fits_64 n then Ok n else Err TooLarge

-- the same of a number without a sign, below 2 ^ 64
abbrev pub in_unsigned_64 : Option ℕ → Result ℕ IntegerFault
in_unsigned_64 None = Err NotInteger
in_unsigned_64 (Some n) = if nat_lt n (2 ^ 64) then Ok n else Err TooLarge

-- what a sum that is kept in 64 bits tells of the number n: that it is n, or that n takes more
abbrev pub IsKept : Option ℕ → ℕ → Type 0
IsKept None n = 2 ^ 64 ≤ n
IsKept (Some m) n = m ≡ n
