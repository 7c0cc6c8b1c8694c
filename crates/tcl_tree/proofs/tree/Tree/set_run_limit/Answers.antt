use Rattle.std.proofs.Common.{[]}
use Rattle.tcl_tree.proofs.tree.Tree.set_run_limit.Goals as goal

pub set_limit_at-requires : goal.set_limit_at-requires
set_limit_at-requires c = ([], c.root-root.ensures)

pub returns-clause-limited : goal.returns-clause-limited
returns-clause-limited c = c.set_limit_at.ensures.limited [] c.root-root.ensures
