-- Where blanks and zeros stand around a sign and a body.
use Rattle.std.specs.Prelude.{ℕ, ◌-◌, ◌&&◌, not, Bool, if◌then◌else◌, List, [], ◌∷◌, ◌++◌}
use Rattle.std.specs.Prelude.{length, Some, None}
use Rattle.std.specs.declared.option.Option.{Option}
use Rattle.tcl_characters.specs.Texts.{copies}
use Rattle.tcl_format.specs.declared.pieces.Layout.{Layout}
use Rattle.tcl_format.specs.declared.specifier.Specifier.{Specifier}

-- blanks before both, zeros between them, blanks behind both
abbrev pub laid_out : Layout → List ℕ → List ℕ → List ℕ
laid_out l sign body = copies l.before (32 ∷ [])
    ++ (sign ++ (copies l.zeros (48 ∷ []) ++ (body ++ copies l.behind (32 ∷ []))))

-- so many zeros, and blanks on the side that the flag - chooses
abbrev pub aligned : Bool → ℕ → ℕ → Layout
aligned left blanks zeros = if left
    then record { before = 0; zeros = zeros; behind = blanks }
    else record { before = blanks; zeros = zeros; behind = 0 }

-- the zeros before the digits of a number, where so many characters are missing to the width
abbrev pub zeros_before : Option ℕ → Specifier → ℕ → List ℕ → ℕ
zeros_before (Some least) s missing digits = least - length digits
zeros_before None s missing digits = if s.flags.zeros && not s.flags.left then missing else 0
