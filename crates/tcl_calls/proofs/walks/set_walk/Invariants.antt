use Rattle.std.proofs.Common.{◌+◌, ◌*◌, drop, length}
use Rattle.tcl_core.specs.Endings.{Reply}
use Rattle.tcl_core.specs.Paths.{Path}
use Rattle.tcl_core.specs.Trees.{Tree}
use Rattle.tcl_language.specs.Control.{sets_names}
use Rattle.tcl_language.specs.Instructions.{Program}
use Rattle.tcl_run.specs.Plain.{Does}
use Rattle.tcl_run.specs.Runs.{IsLevel}
use Rattle.tcl_tree.specs.Own.{Own}
use Rattle.tcl_tree.specs.TreeOf.{tree_of, Names}
use Rattle.tcl_calls.proofs.walks.set_walk.Given as goal

abbrev pub invariant-names : goal.invariant-names
invariant-names l = record {
  sets : (p : Path) → Names l.fn.tree l.place p → (k : Program) (V : Tree Own) (r : Reply) →
      Does (sets_names (drop l.index l.walk.names) (drop (l.turns * length l.walk.names + l.index) l.walk.elements) (λ left. k)) (tree_of l.tree) p V r →
      Does (sets_names l.walk.names (drop (l.turns * length l.walk.names) l.walk.elements) (λ left. k)) (tree_of l.fn.tree) p V r;
  level : IsLevel l.fn.tree l.tree;
}
