-- What a program does that runs nothing inside, calls nobody, counts no step and drops no child: it
-- looks, changes, and is over.
use Rattle.std.specs.Prelude.{◌≡◌, ℕ, List, [], ◌∷◌, ◌++◌, Some, Result, MatchResult}
use Rattle.tcl_core.specs.Paths.{Place, Path}
use Rattle.tcl_core.specs.Endings.{Reply}
use Rattle.tcl_core.specs.Endings.Reply.{Completed, Exit}
use Rattle.tcl_core.specs.Programs.{spot, making}
use Rattle.tcl_core.specs.Programs.Act.{Look, Change, Charge, Limit, LimitDepth, Make, Drop}
use Rattle.tcl_core.specs.Programs.Prog.{done, exit, act, go, inside, call, wait}
use Rattle.tcl_core.specs.Trees.{Tree, Node, effect, at}
use Rattle.tcl_core.specs.Trees.What.{Changed, Limited, DepthLimited}
use Rattle.tcl_language.specs.Instructions.{Program}
use Rattle.tcl_run.specs.Ends.{IfEnded, Interrupts}
use Rattle.tcl_run.specs.Runs.{IsThere}
use Rattle.tcl_run.specs.declared.interruption.Interruption.{Interruption}
use Rattle.tcl_text.specs.declared.integer.Integers.{Integers}
use Rattle.tcl_tree.specs.Own.{Own}
use Rattle.tcl_tree.specs.TreeOf.{tree_of, Names}
use Rattle.tcl_tree.specs.declared.tree.Tree as table
use Rattle.tcl_tree.specs.declared.tree.Place as table_place

-- From the tree T the program at p ends so, with the tree V.
abbrev pub Does : Program → Tree Own → Place → Tree Own → Reply → Type 0
Does (done c) T p V r = (V ≡ T) × (r ≡ Completed c)
Does (exit n) T p V r = (V ≡ T) × (r ≡ Exit n)
Does (act Look k) T p V r = Does (k (at T p)) T p V r
Does (act (Change own) k) T p V r = (n : Node Own) × (T p ≡ Some n) ×
    Does (k (at T p)) (effect p (Changed own) T) p V r
Does (act (Limit l) k) T p V r = Does (k (at T p)) (effect p (Limited l) T) p V r
Does (act (LimitDepth l) k) T p V r = Does (k (at T p)) (effect p (DepthLimited l) T) p V r
Does (act Charge k) T p V r = Prim.⊥
Does (act (Make name own safe) k) T p V r = Does (k (at T p))
    (effect (spot p (making name own safe (T p) (T (p ++ name ∷ []))).0)
    (making name own safe (T p) (T (p ++ name ∷ []))).1 T) p V r
Does (act (Drop name) k) T p V r = Prim.⊥
Does (go i k) T p V r = Prim.⊥
Does (inside b i k) T p V r = Prim.⊥
Does (call h down i lost k) T p V r = Prim.⊥
Does (wait s k) T p V r = Prim.⊥

-- What came of such a program in the interpreter that the place names.
abbrev pub Acts : table.Tree → table_place.Place → (Integers → Program) → table.Tree →
    Result (List ℕ) Interruption → Type 0
Acts old place program new result = IfEnded result
    (λ r. (p : Path) (style : Integers) → IsThere old place p style →
    Does (program style) (tree_of old) p (tree_of new) r)

-- What came of a step in the interpreter that the place names: the program goes on from the new
-- table, whatever follows; or it ends there.
abbrev pub Steps : {A : Type 0} → table.Tree → table_place.Place → (Program → Program) →
    table.Tree → Result A Interruption → Type 0
Steps old place step new result = MatchResult result
    (λ a. (p : Path) → Names old place p → (k : Program) (V : Tree Own) (r : Reply) →
    Does k (tree_of new) p V r → Does (step k) (tree_of old) p V r)
    (λ i. Interrupts i (λ e. (p : Path) → Names old place p → (k : Program) →
    Does (step k) (tree_of old) p (tree_of new) e))
