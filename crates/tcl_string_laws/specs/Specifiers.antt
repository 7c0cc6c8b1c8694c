-- How a specifier of `format` is written behind its `%`.
use Rattle.std.specs.Prelude.{ℕ, ◌≡◌, ◌≤◌, ◌==◌, ◌||◌, ◌⊎◌, ◌↔◌, min, Bool, true, false, List, []}
use Rattle.std.specs.Prelude.{◌∷◌, ◌++◌, Some, None}
use Rattle.std.specs.declared.option.Option.{Option}
use Rattle.std.specs.Char.{is_ascii_digit}
use Rattle.tcl_text.specs.Numbers.{sum_of_digits}
use Rattle.tcl_format.specs.declared.specifier.Flags.{Flags}
use Rattle.tcl_format.specs.declared.specifier.Specifier.{Specifier}
use Rattle.tcl_format.specs.Specifiers.{is_flag, conversion_of, specified}

-- each of these characters passes
abbrev pub Each : (ℕ → Bool) → List ℕ → Type 0
Each p [] = Unit {0}
Each p (c ∷ cs) = (p c ≡ true) × Each p cs

-- whether a character is among these
abbrev pub has : ℕ → List ℕ → Bool
has c [] = false
has c (d ∷ ds) = d == c || has c ds

-- digits, of which the first is no 0, since that would be a flag
abbrev pub IsWidth : List ℕ → Type 0
IsWidth [] = Unit {0}
IsWidth (c ∷ cs) = (c ≡ 48 → Prim.⊥) × Each is_ascii_digit (c ∷ cs)

-- a point and digits, which may be none; or nothing
abbrev pub written_precision : Option (List ℕ) → List ℕ
written_precision None = []
written_precision (Some ds) = 46 ∷ ds

abbrev pub IsPrecision : Option (List ℕ) → Type 0
IsPrecision None = Unit {0}
IsPrecision (Some ds) = Each is_ascii_digit ds

-- nothing, `l` or `ll`
abbrev pub IsSize : List ℕ → Type 0
IsSize size = (size ≡ []) ⊎ ((size ≡ 108 ∷ []) ⊎ (size ≡ 108 ∷ 108 ∷ []))

-- what flags mean: those that stand among them, in any order and as often as they like
abbrev pub flags_of : List ℕ → Flags
flags_of cs = record { left = has 45 cs; zeros = has 48 cs; plus = has 43 cs }

-- what a precision means; no value has more characters than the greatest
abbrev pub precision_of : Option (List ℕ) → Option ℕ
precision_of None = None
precision_of (Some ds) = Some (min (sum_of_digits 10 ds) 16777216)

-- The characters are those of the specifier, and then the rest: flags, a width, a precision, a
-- size, and the character of the conversion.
pub record IsWritten (cs : List ℕ) (s : Specifier) (rest : List ℕ) : Type 0 where
  pub flags : List ℕ
  pub width : List ℕ
  pub precision : Option (List ℕ)
  pub size : List ℕ
  pub last : ℕ
  pub whole : cs ≡ flags ++ (width ++ (written_precision precision ++ (size ++ (last ∷ rest))))
  pub flags_are : Each is_flag flags
  pub width_is : IsWidth width
  pub precision_is : IsPrecision precision
  pub size_is : IsSize size
  pub flags_mean : s.flags ≡ flags_of flags
  pub width_means : s.width ≡ sum_of_digits 10 width
  pub narrow : s.width ≤ 9999
  pub precision_means : s.precision ≡ precision_of precision
  pub last_means : conversion_of last ≡ Some s.conversion

-- a specifier is read where one is written, and that one
abbrev pub SpecifiersReadOneWay : Type 0
SpecifiersReadOneWay = (cs : List ℕ) (s : Specifier) (rest : List ℕ) →
    (specified cs ≡ (Some s, rest)) ↔ IsWritten cs s rest
