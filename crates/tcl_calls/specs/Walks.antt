-- What contracts see of loops over lists.
use Rattle.std.specs.Prelude.{◌≡◌, ◌≤◌, ◌*◌, ℕ, false, List, [], ◌∷◌, ◌++◌, map, drop, length}
use Rattle.tcl_core.specs.Endings.{Reply}
use Rattle.tcl_core.specs.Paths.{Text}
use Rattle.tcl_language.specs.Control.{loops, walk_of, walks_of}
use Rattle.tcl_language.specs.Faults.{wrong_args}
use Rattle.tcl_language.specs.Instructions.{Walk, Program, fails, or_fails}
use Rattle.tcl_language.specs.Pairing.{dict_loop, entries_walk}
use Rattle.tcl_language.specs.Variables.{is_odd}
use Rattle.tcl_text.specs.Lists.{list_of}
use Rattle.tcl_text.specs.Writing.{fault_message}
use Rattle.tcl_calls.specs.Words.{EndsBy}
use Rattle.tcl_calls.specs.declared.walks.Walk as read

-- a walk before its first turn, and after so many turns
abbrev pub whole : read.Walk → Walk
whole w = record { names = w.names; left = w.elements }

abbrev pub walk_at : ℕ → read.Walk → Walk
walk_at turns w = record { names = w.names; left = drop (turns * length w.names) w.elements }

abbrev pub walks_at : ℕ → List read.Walk → List Walk
walks_at turns ws = map (walk_at turns) ws

-- on with the walk that two words are
abbrev pub reads_walk : Text → Text → Text → (Walk → Program) → Program
reads_walk form names elements k = or_fails fault_message (list_of names)
    (λ xs. or_fails fault_message (list_of elements) (λ ys. walk_of form xs ys k))

-- the words, and a body behind them, are read as these walks
abbrev pub ReadsWalks : List Text → List read.Walk → Type 0
ReadsWalks words ws = (form body : Text) (k : List Walk → Text → Program) →
    walks_of form (words ++ body ∷ []) [] k ≡ k (map whole ws) body

-- they are refused by a command of that form, whatever the body
abbrev pub MisreadsWalks : Text → List Text → Reply → Type 0
MisreadsWalks form words e = (body : Text) (k : List Walk → Text → Program) →
    EndsBy (walks_of form (words ++ body ∷ []) [] k) e

-- two words are read as this walk
abbrev pub ReadsWalk : Text → Text → read.Walk → Type 0
ReadsWalk names elements w = (form : Text) (k : Walk → Program) →
    reads_walk form names elements k ≡ k (whole w)

abbrev pub MisreadsWalk : Text → Text → Text → Reply → Type 0
MisreadsWalk form names elements e = (k : Walk → Program) →
    EndsBy (reads_walk form names elements k) e

-- the words of a loop that are read as walks, and its body
abbrev pub IsLoop : List Text → List Text → Text → Type 0
IsLoop args words body = (args ≡ words ++ body ∷ []) × (is_odd words ≡ false) × (2 ≤ length words)

-- no words are those of a loop
abbrev pub IsNoLoop : List Text → Type 0
IsNoLoop args = (form : Text) (k : List Walk → Text → Program) → loops form args k ≡ fails
    (wrong_args form)

-- a name of a key, one of a value, and a dict are read as this walk, or are refused
abbrev pub ReadsEntry : Text → Text → read.Walk → Type 0
ReadsEntry names dict w = (k : Walk → Program) → entries_walk names dict k ≡ k (whole w)

abbrev pub MisreadsEntry : Text → Text → Reply → Type 0
MisreadsEntry names dict e = (k : Walk → Program) → EndsBy (entries_walk names dict k) e

-- the words of a loop over a dict are read as these walks and this body, or are refused
abbrev pub ReadsDictLoop : List Text → List read.Walk → Text → Type 0
ReadsDictLoop args ws body = (k : List Walk → Text → Program) →
    dict_loop args k ≡ k (map whole ws) body

abbrev pub MisreadsDictLoop : List Text → Reply → Type 0
MisreadsDictLoop args e = (k : List Walk → Text → Program) → EndsBy (dict_loop args k) e

-- a loop has one variable, and one list
abbrev pub Alone : List read.Walk → Text → List Text → Type 0
Alone ws name elements = ws ≡ record { names = name ∷ []; elements = elements } ∷ []
