use Rattle.tcl_core.specs.Programs.{is_spent}
use Rattle.tcl_tree.proofs.CoreLemmas.{level_blocked}
use Rattle.tcl_tree.proofs.tree.Tree.spent_at.Goals as goal

pub returns : goal.returns
returns c = level_blocked is_spent _ _ c.full_level.result c.full_level.ensures.none c.full_level.ensures.some
