-- What contracts see of words that are put together.
use Rattle.std.specs.Prelude.{◌≡◌, Some, ℕ, Bool, List, ◌∷◌, Result, Ok, Err}
use Rattle.tcl_core.specs.Paths.{Path}
use Rattle.tcl_core.specs.Trees.{Tree}
use Rattle.tcl_core.specs.Endings.{Completion}
use Rattle.tcl_core.specs.Runs.{Ending}
use Rattle.tcl_core.specs.Endings.Reply.{Completed}
use Rattle.tcl_core.specs.Programs.Prog.{done, inside}
use Rattle.tcl_core.specs.Programs.Wrap.{Deeper}
use Rattle.tcl_language.specs.Instructions.Instr.{Call, Hidden}
use Rattle.tcl_core.specs.Endings.{leave_proc}
use Rattle.tcl_flow.specs.View.{completion_of}
use Rattle.tcl_run.specs.Ends.{IfEnded, IfRan}
use Rattle.tcl_run.specs.declared.interruption.Interruption.{Interruption}
use Rattle.tcl_run.specs.declared.interruption.Interruption.TheVariants as interruption
use Rattle.tcl_language.specs.Instructions.{Program, Open}
use Rattle.tcl_run.specs.Language.{language}
use Rattle.tcl_language.specs.Scripts.{parts}
use Rattle.tcl_core.specs.Entries.{Entry}
use Rattle.tcl_calls.specs.Asking.{asks_below}
use Rattle.tcl_language.specs.Interpreters.{asks_at}
use Rattle.tcl_parser.specs.declared.script.Part.{Part}
use Rattle.tcl_run.specs.Runs.{IsAt, Proceeds, Ways}
use Rattle.tcl_text.specs.declared.integer.Integers.{Integers}
use Rattle.tcl_tree.specs.Own.{Own}
use Rattle.tcl_tree.specs.TreeOf.{tree_of}
use Rattle.tcl_tree.specs.declared.tree.Tree.{Tree as Table}
use Rattle.tcl_tree.specs.declared.tree.Place.{Place}

-- a command that is called for a caller elsewhere, one level deeper
abbrev pub targeted : List (List ℕ) → Program
targeted words = inside Deeper (Call words) done

-- and one that is hidden, at level 0 where that is asked for
abbrev pub unhidden : Bool → List (List ℕ) → Program
unhidden is_global words = inside Deeper (Hidden is_global words) done

-- How far something came, of which a program is told that it completed: the program goes on, or it
-- ends so too, or is given up.
abbrev pub GoesOn : {S : Type 0} → Ways S → Integers → Tree Own → S → Path →
    ((Completion → Program) → Program) → Tree Own → S → Ending → Type 0
GoesOn {S} ways style T o p x U u (Some (Completed c)) = (k : Completion → Program) (V : Tree Own)
    (z : S) (e : Ending) → Proceeds ways (language style) U u p (k c) V z e →
    Proceeds ways (language style) T o p (x k) V z e
GoesOn {S} ways style T o p x U u e = (k : Completion → Program) →
    Proceeds ways (language style) T o p (x k) U u e

-- What came of asking the interpreter at a path for something, in one where an evaluation is in
-- progress.
abbrev pub Asks : {S : Type 0} → Ways S → Table → S → Place → Path → Entry → Table → S →
    Result (List ℕ) Interruption → Type 0
Asks ways old o place path entry new z result = IfRan result
    (λ e. (p : Path) (style : Integers) → IsAt old place p style →
    GoesOn ways style (tree_of old) o p (asks_at path entry) (tree_of new) z e)

-- the same, where the outside is told of it, as of a call to another interpreter
abbrev pub AsksBelow : {S : Type 0} → Ways S → Table → S → Place → Path → Entry → Table → S →
    Result (List ℕ) Interruption → Type 0
AsksBelow ways old o place path entry new z result = IfRan result
    (λ e. (p : Path) (style : Integers) → IsAt old place p style →
    GoesOn ways style (tree_of old) o p (asks_below path entry) (tree_of new) z e)

-- One part of a word was substituted: the rest of its parts go on from there.
abbrev pub PartGoes : {S : Type 0} → Ways S → Table → S → Place → Part → List Open → List ℕ →
    Table → S → List Open → List ℕ → Type 0
PartGoes {S} ways old o place part elements text new z next all = (p : Path) (style : Integers) →
    IsAt old place p style → (rest : List Part) (V : Tree Own) (y : S) (e : Ending) →
    Proceeds ways (language style) (tree_of new) z p (parts rest next all) V y e →
    Proceeds ways (language style) (tree_of old) o p (parts (part ∷ rest) elements text) V y e

-- It ended the word, and what was to go on with it.
abbrev pub PartBreaks : {S : Type 0} → Ways S → Table → S → Place → Part → List Open → List ℕ →
    Table → S → Ending → Type 0
PartBreaks ways old o place part elements text new z e = (p : Path) (style : Integers) →
    IsAt old place p style → (rest : List Part) →
    Proceeds ways (language style) (tree_of old) o p (parts (part ∷ rest) elements text)
    (tree_of new) z e

-- What may come from there may come from here.
abbrev pub Leads : {S : Type 0} → Ways S → Integers → Tree Own → S → Path → Program → Tree Own → S →
    Program → Type 0
Leads {S} ways style T o p x U u y = (V : Tree Own) (z : S) (e : Ending) →
    Proceeds ways (language style) U u p y V z e → Proceeds ways (language style) T o p x V z e

-- the end of a procedure's call whose body ended so
abbrev pub LeavesProc : Result (List ℕ) Interruption → Result (List ℕ) Interruption → Type 0
LeavesProc (Ok text) r = r ≡ Ok text
LeavesProc (Err (interruption.Completed c)) r = IfEnded r
    (λ e. e ≡ Completed (leave_proc (completion_of c.value)))
LeavesProc (Err i) r = r ≡ Err i
