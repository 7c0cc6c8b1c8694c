-- Texts with values in the place of specifiers.
use Rattle.std.specs.Prelude.{ℕ, zero, suc, ◌-◌, ◌==◌, false, if◌then◌else◌, List, [], ◌∷◌, ◌++◌}
use Rattle.std.specs.Prelude.{length, Ok, Err, Some, None, codes}
use Rattle.std.specs.declared.result.Result.{Result}
use Rattle.std.specs.declared.option.Option.{Option}
use Rattle.std.specs.Char.{encode_utf8}
use Rattle.std.specs.Str.{chars}
use Rattle.tcl_text.specs.declared.integer.Integers.{Integers}
use Rattle.tcl_words.specs.Outcomes.{Outcome, next}
use Rattle.tcl_words.specs.Faults.{wrong_arguments}
use Rattle.tcl_words.specs.Limits.{limited}
use Rattle.tcl_format.specs.declared.specifier.Conversion.{Conversion}
use Rattle.tcl_format.specs.declared.specifier.Conversion.TheVariants.{Percent, Value}
use Rattle.tcl_format.specs.declared.specifier.Specifier.{Specifier}
use Rattle.tcl_format.specs.Specifiers.{specified, shown}
use Rattle.tcl_format.specs.Pieces.{padded, piece, bad_format}

-- A character of the text; a specifier, with its characters behind `%`; what stands behind a `%`
-- and is no specifier.
pub data Item : Type 0 where
  Plain : ℕ → Item
  Wanted : Specifier → List ℕ → Item
  Wrong : List ℕ → Item

abbrev pub item_of : Option Specifier → List ℕ → Item
item_of None cs = Wrong cs
item_of (Some s) cs = Wanted s cs

-- the items of the characters behind the first `skip` of these
abbrev pub items : List ℕ → ℕ → List Item
items [] skip = []
items (c ∷ cs) (suc skip) = items cs skip
items (c ∷ cs) zero =
    if c == 37 then item_of (specified cs).0 (shown cs (specified cs).1) ∷ items cs
    (length cs - length (specified cs).1)
    else Plain c ∷ items cs 0

abbrev pub not_enough : List ℕ
not_enough = codes "not enough arguments for all format specifiers"

-- the next value, and those behind it
abbrev pub next_value : List (List ℕ) → Result (List ℕ × List (List ℕ)) (List ℕ)
next_value [] = Err not_enough
next_value (value ∷ values) = Ok (value, values)

-- what was made so far, and the values that are left
abbrev pub Filled : Type 0
Filled = List ℕ × List (List ℕ)

abbrev pub put_value : Integers → List ℕ → Specifier → List ℕ → Conversion → List (List ℕ) →
    Result Filled (List ℕ)
put_value style made s cs Percent values = next (limited (made ++ padded s false [] (37 ∷ [])))
    (λ more. Ok (more, values))
put_value style made s cs (Value kind) values =
    next (next_value values) (λ v.
    next (next (piece style s cs kind v.0) (λ text. limited (made ++ text)))
    (λ more. Ok (more, v.1)))

-- an item put behind what was made
abbrev pub put_item : Integers → List ℕ → Item → List (List ℕ) → Result Filled (List ℕ)
put_item style made (Plain c) values = next (limited (made ++ encode_utf8 c))
    (λ more. Ok (more, values))
put_item style made (Wanted s cs) values = put_value style made s cs s.conversion values
put_item style made (Wrong cs) values = Err (bad_format cs)

-- the items one behind another
abbrev pub filled : Integers → List ℕ → List Item → List (List ℕ) → Outcome
filled style made [] values = Ok made
filled style made (item ∷ rest) values = next (put_item style made item values)
    (λ p. filled style p.0 rest p.1)

-- what `format` answers its words
abbrev pub format_of : Integers → List (List ℕ) → Outcome
format_of style [] = Err (wrong_arguments (codes "format formatString ?arg ...?"))
format_of style (text ∷ values) = filled style [] (items (chars text) 0) values
