use Rattle.std.proofs.Common.{sym}
use Rattle.tcl_tree.proofs.HeapLemmas.{tree-none}
use Rattle.tcl_tree.proofs.NamingLemmas.{if_none}
use Rattle.tcl_tree.proofs.tree.Tree.place.Goals as goal

pub returns-in_err-key-clause-missing : goal.returns-in_err-key-clause-missing
returns-in_err-key-clause-missing c = if_none _ (tree-none _ _ _ (sym c.in_err-key.ensures))
