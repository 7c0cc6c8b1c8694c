-- The laws of whole evaluations. `prog` is the table of commands: the laws that are of any I hold
-- for each.
use Rattle.std.specs.Prelude.{◌≡◌, ℕ, ◌≤◌, ◌+◌, List, []}
use Rattle.tcl_core.specs.Entries.{Answer}
use Rattle.tcl_core.specs.Lives.{End, Whole, count_at, limit_at}
use Rattle.tcl_core.specs.Paths.{Path, Text}
use Rattle.tcl_core.specs.Programs.{Table}
use Rattle.tcl_core.specs.Trees.{Event, Tree}
use Rattle.tcl_core.specs.Views.{steps_of}
use Rattle.tcl_run.specs.Language.{language}
use Rattle.tcl_text.specs.declared.integer.Integers.{Integers}
use Rattle.tcl_tree.specs.TreeOf.{tree_of}
use Rattle.tcl_tree.specs.declared.tree.Tree.{Tree as TreeTable}
use Rattle.tcl_run_laws.specs.Budgets.{CountsRise, CountsStayWithin, DepthsComeBack, DepthsStay}
use Rattle.tcl_run_laws.specs.Budgets.{IsOrderly, KeepsBudget, LimitsStay, StopsAreObeyed}

-- In the whole evaluation of each script, anywhere in a tree T, with n counted steps and whatever
-- the host replies, this is so of the trees before and after it and of all that happens in it.
abbrev pub InEach : {O I : Type 0} → Table O I → (Tree O → ℕ → List (Event O) → Tree O → Type 0) →
    Type 0
InEach {O} prog P = (T V : Tree O) (p : Path) (s : Text) (n : ℕ) (B : List Answer) (e : End)
    (outs : List (Event O)) → (w : Whole prog T p s n B e outs V) → P T n w.tape V

-- It makes at most so many steps.
abbrev pub StepsAreBounded : Type 0 → Type 0 → Type 0
StepsAreBounded O I = (prog : Table O I) → InEach prog (λ T n τ V. steps_of τ ≤ n)

-- The count of the root rises by all steps, and the root has its own limit again.
abbrev pub RootsCount : Type 0 → Type 0 → Type 0
RootsCount O I = (prog : Table O I) → InEach prog
    (λ T n τ V. IsOrderly T → (count_at (V []) ≡ count_at (T []) + steps_of τ) ×
    (limit_at (V []) ≡ limit_at (T [])))

-- The count of each rises by the steps that are made in its subtree.
abbrev pub StepsAreCounted : Type 0 → Type 0 → Type 0
StepsAreCounted O I = (prog : Table O I) → InEach prog (λ T n τ V. CountsRise T τ V)

-- No count passes a limit that nothing raises or takes away.
abbrev pub LimitsHold : Type 0 → Type 0 → Type 0
LimitsHold O I = (prog : Table O I) → InEach prog (λ T n τ V. CountsStayWithin T τ V)

-- No step is made between a stop and where it leaves the subtree that it stops.
abbrev pub StopsHold : Type 0 → Type 0 → Type 0
StopsHold O I = (prog : Table O I) → InEach prog (λ T n τ V. StopsAreObeyed τ)

-- Each that isn't dropped is in use afterwards as deeply as before, and every other one is not.
abbrev pub DepthsHold : Type 0 → Type 0 → Type 0
DepthsHold O I = (prog : Table O I) → InEach prog
    (λ T n τ V. IsOrderly T → DepthsStay T τ V × DepthsComeBack T V)

-- In a safe subtree no script changes a limit.
abbrev pub ScriptsSetNoLimit : Type 0
ScriptsSetNoLimit = (style : Integers) → InEach (language style)
    (λ T n τ V. IsOrderly T → LimitsStay T τ V)

-- All of it, with the commands of the language.
abbrev pub ScriptsKeepBudgets : Type 0
ScriptsKeepBudgets = (style : Integers) → InEach (language style)
    (λ T n τ V. IsOrderly T → KeepsBudget T n τ V)

-- The tree of a table of interpreters is orderly.
abbrev pub TablesAreOrderly : Type 0
TablesAreOrderly = (t : TreeTable) → IsOrderly (tree_of t)
