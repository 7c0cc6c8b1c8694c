use Rattle.std.proofs.Common.{◌≡◌, ℕ, List, Some, subst}
use Rattle.tcl_core.specs.Paths.{Path}
use Rattle.tcl_core.specs.Trees.{Node}
use Rattle.tcl_frames.specs.Chain.{read}
use Rattle.tcl_language.specs.Faults.{frame_message}
use Rattle.tcl_run.specs.Ends.{Gave}
use Rattle.tcl_tree.specs.Own.{Own}
use Rattle.tcl_tree.specs.TreeOf.{tree_of, Names}
use Rattle.tcl_run.proofs.steps.read_by_word.Goals as goal

pub returns-clause-read : goal.returns-clause-read
returns-clause-read c =
    subst (λ (x : List ℕ). (p : Path) (n : Node Own) → Names c.args.tree.now c.args.place p → tree_of c.args.tree.now p ≡ Some n → Gave frame_message (read n.own.chain.frames x) c.read_named.result)
    c.in_ok-name.ensures c.read_named.ensures.read
