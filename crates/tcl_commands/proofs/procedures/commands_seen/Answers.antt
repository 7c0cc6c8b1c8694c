use Rattle.std.proofs.Common.{◌≡◌, Some, None, ◌∙◌}
use Rattle.tcl_run.proofs.Steady.{stands}
use Rattle.tcl_tree.specs.TreeOf.{tree_of}
use Rattle.tcl_tree.proofs.CoreLemmas.{tree_there}
use Rattle.tcl_commands.proofs.procedures.commands_seen.Goals as goal

pub unreachable-requires : goal.unreachable-requires
unreachable-requires c =
    let p = c.requires.0 in
    let n = stands (tree_of c.args.tree.now p) (tree_there c.args.tree.now p _ c.requires.1) in
    let clash : None ≡ Some n.0 = c.in-None.ensures p c.requires.1 ∙ n.1 in
    cc
