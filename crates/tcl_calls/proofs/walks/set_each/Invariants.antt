use Rattle.std.proofs.Common.{drop}
use Rattle.tcl_core.specs.Endings.{Reply}
use Rattle.tcl_core.specs.Paths.{Path}
use Rattle.tcl_core.specs.Trees.{Tree}
use Rattle.tcl_language.specs.Control.{sets_walks}
use Rattle.tcl_language.specs.Instructions.{Program}
use Rattle.tcl_run.specs.Plain.{Does}
use Rattle.tcl_run.specs.Runs.{IsLevel}
use Rattle.tcl_tree.specs.Own.{Own}
use Rattle.tcl_tree.specs.TreeOf.{tree_of, Names}
use Rattle.tcl_calls.specs.Walks.{walks_at}
use Rattle.tcl_calls.proofs.walks.set_each.Given as goal

abbrev pub invariant-walks : goal.invariant-walks
invariant-walks l = record {
  sets : (p : Path) → Names l.fn.tree l.place p → (k : Program) (V : Tree Own) (r : Reply) →
      Does (sets_walks (walks_at l.turns (drop l.walk-index l.walks)) (λ rest. k)) (tree_of l.tree) p V r → Does (sets_walks (walks_at l.turns l.walks) (λ rest. k)) (tree_of l.fn.tree) p V r;
  level : IsLevel l.fn.tree l.tree;
}
