-- What comes of asking an interpreter, wherever it is in the tree: the program that asks goes on,
-- whatever is left of it.
use Rattle.std.specs.Prelude.{ℕ, List, [], Some, Result, MatchResult}
use Rattle.tcl_core.specs.Endings.{Completion, Reply, error}
use Rattle.tcl_core.specs.Endings.Reply.{Completed}
use Rattle.tcl_core.specs.Entries.{Entry}
use Rattle.tcl_core.specs.Paths.{Path, Place}
use Rattle.tcl_core.specs.Trees.{Tree}
use Rattle.tcl_language.specs.Instructions.{Program}
use Rattle.tcl_core.specs.Programs.Prog.{call}
use Rattle.tcl_language.specs.Interpreters.{asks_at, finished, no_interpreter}
use Rattle.tcl_run.specs.Language.{language}
use Rattle.tcl_run.specs.Ends.{IfEnded, Interrupts}
use Rattle.tcl_run.specs.Outsides.{Going}
use Rattle.tcl_run.specs.Runs.{Comes, IsAt}
use Rattle.tcl_run.specs.declared.interruption.Interruption.{Interruption}
use Rattle.tcl_text.specs.declared.integer.Integers.{Integers}
use Rattle.tcl_tree.specs.Own.{Own}
use Rattle.tcl_tree.specs.TreeOf.{tree_of}
use Rattle.tcl_tree.specs.declared.tree.Tree as table
use Rattle.tcl_tree.specs.declared.tree.Place as table_place

-- Something that ended so, of which a program is told that it completed: the program goes on, or it
-- ends so too.
abbrev pub GoesOn : {S : Type 0} → Going S → Integers → Tree Own → S → Place →
    ((Completion → Program) → Program) → Tree Own → S → Reply → Type 0
GoesOn {S} goes style T o p x U u (Completed c) = (k : Completion → Program) (V : Tree Own) (z : S)
    (r : Reply) → Comes goes (language style) U u p (k c) V z r →
    Comes goes (language style) T o p (x k) V z r
GoesOn {S} goes style T o p x U u e = (k : Completion → Program) →
    Comes goes (language style) T o p (x k) U u e

-- What came of asking the interpreter at a path for something, in one where an evaluation is in
-- progress.
abbrev pub Asks : {S : Type 0} → Going S → table.Tree → S → table_place.Place → Path → Entry →
    table.Tree → S → Result (List ℕ) Interruption → Type 0
Asks goes old o place path entry new z result = IfEnded result
    (λ e. (p : Path) (style : Integers) → IsAt old place p style →
    GoesOn goes style (tree_of old) o p (asks_at path entry) (tree_of new) z e)

-- a call of the interpreter these names down, which isn't the one that asks
abbrev pub asks_below : Path → Entry → (Completion → Program) → Program
asks_below path entry k = call (Some 0) path entry (error (no_interpreter [])) (finished k)

-- the same, where the outside is told of it, as of a call to another interpreter
abbrev pub AsksBelow : {S : Type 0} → Going S → table.Tree → S → table_place.Place → Path → Entry →
    table.Tree → S → Result (List ℕ) Interruption → Type 0
AsksBelow goes old o place path entry new z result = IfEnded result
    (λ e. (p : Path) (style : Integers) → IsAt old place p style →
    GoesOn goes style (tree_of old) o p (asks_below path entry) (tree_of new) z e)

-- a program for each style of integer texts
abbrev pub Styled : Type 0
Styled = Integers → Program

-- how a program ends that is run in an interpreter where an evaluation is in progress
abbrev pub EndsIn : {S : Type 0} → Going S → table.Tree → S → table_place.Place → Styled →
    Tree Own → S → Reply → Type 0
EndsIn goes old o place program V z r = (p : Path) (style : Integers) → IsAt old place p style →
    Comes goes (language style) (tree_of old) o p (program style) V z r

-- However the program ends that is left at a later table and a later state of the outside, so ends
-- the whole.
abbrev pub Leads : {S : Type 0} → Going S → table.Tree → S → table_place.Place → Styled →
    table.Tree → S → Styled → Type 0
Leads {S} goes old o place whole new z rest = (V : Tree Own) (y : S) (r : Reply) →
    EndsIn goes new z place rest V y r → EndsIn goes old o place whole V y r

-- What came of a step that stands before any rest: what is left is the rest, or all is over.
abbrev pub Steps : {S : Type 0} → Going S → table.Tree → S → table_place.Place → (Styled → Styled) →
    table.Tree → S → Result (Unit {0}) Interruption → Type 0
Steps goes old o place step new z result = (rest : Styled) → MatchResult result
    (λ done. Leads goes old o place (step rest) new z rest)
    (λ i. Interrupts i (EndsIn goes old o place (step rest) (tree_of new) z))
