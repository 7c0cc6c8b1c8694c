-- The words of a call of a function.
use Rattle.std.specs.Prelude.{List, [], ◌∷◌}
use Rattle.tcl_core.specs.Entries.{Entry}
use Rattle.tcl_core.specs.Entries.Entry.{CallWords}
use Rattle.tcl_core.specs.Paths.{Text}

-- the first word is the function's name
abbrev pub name_of : List Text → Text
name_of [] = []
name_of (x ∷ xs) = x

-- and the others are its arguments
abbrev pub args_of : List Text → List Text
args_of [] = []
args_of (x ∷ xs) = xs

-- the words with which a call comes; none where something else is asked for
abbrev pub words_of : Entry → List Text
words_of (CallWords words) = words
words_of i = []
