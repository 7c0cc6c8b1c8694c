use Rattle.std.proofs.Common.{◌≡◌, length}
use Rattle.tcl_run.specs.Language.{language}
use Rattle.tcl_player.specs.Players.{player_of}
use Rattle.tcl_reactions.specs.Playing.{Lived}
use Rattle.tcl_tree.specs.TreeOf.{marks_of, tree_of}
use Rattle.tcl_replay.proofs.replaying.play_entries.Given as goal

abbrev pub invariant-entries : goal.invariant-entries
invariant-entries l = Lived (language (marks_of l.fn.tree).integers) (tree_of l.fn.tree) (player_of l.fn.player) (tree_of l.tree) (player_of l.player) × (marks_of l.tree ≡ marks_of l.fn.tree)

abbrev pub decreases-entries : goal.decreases-entries
decreases-entries l = length (player_of l.player).left
