-- Steps of a program that read and look, and change nothing.
use Rattle.std.specs.Prelude.{◌≡◌, Result, MatchResult}
use Rattle.tcl_core.specs.Endings.{Completion, Reply}
use Rattle.tcl_core.specs.Endings.Reply.{Completed}
use Rattle.tcl_core.specs.Paths.{Place, Path}
use Rattle.tcl_core.specs.Programs.Act.{Look}
use Rattle.tcl_core.specs.Programs.Prog.{done, act}
use Rattle.tcl_core.specs.Trees.{Tree, at}
use Rattle.tcl_language.specs.Instructions.{Program}
use Rattle.tcl_run.specs.Ends.{Interrupts}
use Rattle.tcl_run.specs.Runs.{IsThere}
use Rattle.tcl_run.specs.declared.interruption.Interruption.{Interruption}
use Rattle.tcl_text.specs.declared.integer.Integers.{Integers}
use Rattle.tcl_tree.specs.Own.{Own}
use Rattle.tcl_tree.specs.TreeOf.{tree_of}
use Rattle.tcl_tree.specs.declared.tree.Tree as table
use Rattle.tcl_tree.specs.declared.tree.Place as table_place
use Rattle.tcl_calls.specs.Asking.{Styled}

-- by looks alone the one program at p gets to be the other
pub data LooksTo (T : Tree Own) (p : Place) : Program → Program → Type 0 where
  here : {x : Program} → LooksTo T p x x
  looked : {k : Tree Own → Program} {y : Program} → LooksTo T p (k (at T p)) y →
      LooksTo T p (act Look k) y

-- it ends so, with nothing changed
pub record LooksToEnd (T : Tree Own) (p : Place) (x : Program) (e : Reply) : Type 0 where
  pub completion : Completion
  pub way : LooksTo T p x (done completion)
  pub end : e ≡ Completed completion

-- the same wherever the interpreter is
abbrev pub GetsTo : table.Tree → table_place.Place → Styled → Styled → Type 0
GetsTo t place x y = (p : Path) (style : Integers) → IsThere t place p style →
    LooksTo (tree_of t) p (x style) (y style)

abbrev pub GetsToEnd : table.Tree → table_place.Place → Styled → Reply → Type 0
GetsToEnd t place x e = (p : Path) (style : Integers) → IsThere t place p style →
    LooksToEnd (tree_of t) p (x style) e

-- What came of a step that finds something, of which the rest is told as the view says; or all is
-- over.
abbrev pub Finds : {A B : Type 0} → table.Tree → table_place.Place → (A → B) →
    ((B → Styled) → Styled) → Result A Interruption → Type 0
Finds {A} {B} t place view step result = MatchResult result
    (λ a. (rest : B → Styled) → GetsTo t place (step rest) (rest (view a)))
    (λ i. Interrupts i (λ e. (rest : B → Styled) → GetsToEnd t place (step rest) e))

-- What came of a step that only tests.
abbrev pub Passes : table.Tree → table_place.Place → (Styled → Styled) →
    Result (Unit {0}) Interruption → Type 0
Passes t place step result = MatchResult result
    (λ a. (rest : Styled) → GetsTo t place (step rest) rest)
    (λ i. Interrupts i (λ e. (rest : Styled) → GetsToEnd t place (step rest) e))
