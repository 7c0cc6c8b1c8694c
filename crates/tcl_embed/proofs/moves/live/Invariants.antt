use Rattle.tcl_core.specs.Lives.Outcome.{Finished}
use Rattle.tcl_run.specs.Language.{language}
use Rattle.tcl_reactions.specs.Moving.{Lived}
use Rattle.tcl_run.specs.Runs.{IsSteady}
use Rattle.tcl_tree.specs.TreeOf.{marks_of, tree_of}
use Rattle.tcl_embed.proofs.moves.live.Given as goal

abbrev pub invariant-entries : goal.invariant-entries
invariant-entries g l = Lived g.M.Outside.goes (language (marks_of l.fn.tree).integers) (tree_of l.fn.tree) l.fn.outside (tree_of l.tree) l.outside Finished × IsSteady l.fn.tree l.tree

abbrev pub decreases-entries : goal.decreases-entries
decreases-entries g l = g.M.Outside.entries_left l.outside
