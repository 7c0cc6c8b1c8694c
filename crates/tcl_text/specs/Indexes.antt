-- Index texts.
use Rattle.std.specs.Prelude.{ℕ, ◌+◌, ◌==◌, ◌||◌, nat_le, codes, Bool, true, false, if◌then◌else◌}
use Rattle.std.specs.Prelude.{List, [], ◌∷◌, take, drop, slice_index, ℤ, pos, negsuc, ◌+ℤ◌, ◌-ℤ◌}
use Rattle.std.specs.Prelude.{Option, None, Some, option_map}
use Rattle.std.specs.Option.{option_or}
use Rattle.std.specs.Str.{bytes_eq}
use Rattle.tcl_text.specs.declared.integer.Integers.{Integers}
use Rattle.tcl_text.specs.declared.index.Index.{Index}
use Rattle.tcl_text.specs.declared.index.Index.TheVariants.{Before, At, Beyond}
use Rattle.tcl_text.specs.Numbers.{trim_start, trim_end, unsigned, signed, integer_of, fits_64}

-- the number, if it fits 64 bits
abbrev pub only_inside : Option ℤ → Option ℤ
only_inside None = None
only_inside (Some n) = if fits_64 n then Some n else None

-- what stands before the operator: `end`, or an integer text with no white space behind it
abbrev pub base_of : Integers → ℤ → List ℕ → Option ℤ
base_of style end text = if bytes_eq text (codes "end") then Some end else only_inside
    (signed style (trim_start text))

-- what stands behind it: a number without a sign and with no white space before it
abbrev pub offset_of : Integers → List ℕ → Option ℤ
offset_of style text = only_inside (option_map pos (unsigned style (trim_end text)))

abbrev pub is_operator : ℕ → Bool
is_operator c = c == 43 || c == 45

abbrev pub after_first : Bool → Option ℕ → Option ℕ
after_first first (Some k) = Some (k + 1)
after_first true None = Some 0
after_first false None = None

-- the place of the last `+` or `-`
abbrev pub last_operator : List ℕ → Option ℕ
last_operator [] = None
last_operator (c ∷ cs) = after_first (is_operator c) (last_operator cs)

-- the sum, or the difference
abbrev pub combine : ℕ → Option ℤ → Option ℤ → Option ℤ
combine operator None offset = None
combine operator (Some base) None = None
combine operator (Some base) (Some offset) =
    Some (if operator == 43 then base +ℤ offset else base -ℤ offset)

abbrev pub sum_around : Integers → ℤ → List ℕ → Option ℕ → Option ℤ
sum_around style end text None = None
sum_around style end text (Some k) = combine (slice_index text k) (base_of style end (take k text))
    (offset_of style (drop (k + 1) text))

-- the number that an index text stands for, where it is one; `end` is what the word stands for
abbrev pub index_of : Integers → ℤ → List ℕ → Option ℤ
index_of style end text =
    option_or (only_inside (integer_of style text))
    (if bytes_eq text (codes "end") then Some end else sum_around style end text
    (last_operator text))

-- the place that a number stands for
abbrev pub place : ℤ → Index
place (pos n) = if nat_le n 16777216 then At n else Beyond
place (negsuc n) = Before
