-- What stands behind a `%`.
use Rattle.std.specs.Prelude.{ℕ, ◌+◌, ◌-◌, ◌*◌, min, ◌==◌, ◌||◌, nat_le, Bool, false, if◌then◌else◌}
use Rattle.std.specs.Prelude.{List, [], ◌∷◌, length, take, Some, None}
use Rattle.std.specs.declared.option.Option.{Option}
use Rattle.std.specs.Char.{is_ascii_digit}
use Rattle.tcl_format.specs.declared.specifier.Flags.{Flags}
use Rattle.tcl_format.specs.declared.specifier.Radix.{Radix}
use Rattle.tcl_format.specs.declared.specifier.Radix.TheVariants.{Binary, Octal, Hexadecimal}
use Rattle.tcl_format.specs.declared.specifier.Radix.TheVariants.{UpperHexadecimal}
use Rattle.tcl_format.specs.declared.specifier.Kind.TheVariants.{Decimal, Pattern, Character, Text}
use Rattle.tcl_format.specs.declared.specifier.Conversion.{Conversion}
use Rattle.tcl_format.specs.declared.specifier.Conversion.TheVariants.{Percent, Value}
use Rattle.tcl_format.specs.declared.specifier.Specifier.{Specifier}

-- ---- flags: - 0 +

abbrev pub is_flag : ℕ → Bool
is_flag c = c == 45 || (c == 48 || c == 43)

abbrev pub no_flags : Flags
no_flags = record { left = false; zeros = false; plus = false }

-- these flags, and that of a character
abbrev pub with_flag : Flags → ℕ → Flags
with_flag f c = record {
  left = f.left || c == 45;
  zeros = f.zeros || c == 48;
  plus = f.plus || c == 43;
}

-- the flags that stand first, beside those before them, and what follows
abbrev pub read_flags : Flags → List ℕ → Flags × List ℕ
read_flags f [] = (f, [])
read_flags f (c ∷ cs) = if is_flag c then read_flags (with_flag f c) cs else (f, c ∷ cs)

-- ---- numbers

-- the number of the decimal digits that stand first, behind those of n, and what follows
abbrev pub read_number : ℕ → List ℕ → ℕ × List ℕ
read_number n [] = (n, [])
read_number n (c ∷ cs) = if is_ascii_digit c then read_number (n * 10 + (c - 48)) cs
    else (n, c ∷ cs)

-- numbers past the most characters of a value are as good as that
abbrev pub capped : ℕ × List ℕ → ℕ × List ℕ
capped p = (min p.0 16777216, p.1)

-- ---- the other parts

abbrev pub precise : ℕ × List ℕ → Option ℕ × List ℕ
precise p = (Some p.0, p.1)

-- a point and digits, or nothing, and what follows
abbrev pub read_precision : List ℕ → Option ℕ × List ℕ
read_precision [] = (None, [])
read_precision (c ∷ cs) = if c == 46 then precise (capped (read_number 0 cs)) else (None, c ∷ cs)

-- what follows an `l`, or nothing
abbrev pub behind_l : List ℕ → List ℕ
behind_l [] = []
behind_l (c ∷ cs) = if c == 108 then cs else c ∷ cs

abbrev pub radix_of : ℕ → Option Radix
radix_of c =
    if c == 120 then Some Hexadecimal
    else (if c == 88 then Some UpperHexadecimal
    else (if c == 111 then Some Octal
    else (if c == 98 then Some Binary
    else None)))

abbrev pub pattern_or : Option Radix → Option Conversion
pattern_or None = None
pattern_or (Some radix) = Some (Value (Pattern radix))

-- d i, x X o b, c, s, %
abbrev pub conversion_of : ℕ → Option Conversion
conversion_of c =
    if c == 100 || c == 105 then Some (Value Decimal)
    else (if c == 115 then Some (Value Text)
    else (if c == 99 then Some (Value Character)
    else (if c == 37 then Some Percent
    else pattern_or (radix_of c))))

-- ---- the whole

-- a specifier of these parts: its width is at most 9999
abbrev pub made_of : Flags → ℕ → Option ℕ → Option Conversion → Option Specifier
made_of flags width precision None = None
made_of flags width precision (Some conversion) =
    if nat_le width 9999 then Some (record {
      flags = flags;
      width = width;
      precision = precision;
      conversion = conversion;
    }) else None

-- the specifier that is closed by the next character, if it is one
abbrev pub closed : Flags → ℕ → Option ℕ → List ℕ → Option Specifier × List ℕ
closed flags width precision [] = (None, [])
closed flags width precision (c ∷ cs) = (made_of flags width precision (conversion_of c), cs)

abbrev pub behind_precision : Flags → ℕ → Option ℕ × List ℕ → Option Specifier × List ℕ
behind_precision flags width p = closed flags width p.0 (behind_l (behind_l p.1))

abbrev pub behind_width : Flags → ℕ × List ℕ → Option Specifier × List ℕ
behind_width flags p = behind_precision flags p.0 (read_precision p.1)

abbrev pub behind_flags : Flags × List ℕ → Option Specifier × List ℕ
behind_flags p = behind_width p.0 (capped (read_number 0 p.1))

-- the specifier with which these characters begin, if they begin with one, and what follows the
-- character that closes it
abbrev pub specified : List ℕ → Option Specifier × List ℕ
specified cs = behind_flags (read_flags no_flags cs)

-- the characters before the rest
abbrev pub shown : List ℕ → List ℕ → List ℕ
shown cs rest = take (length cs - length rest) cs
