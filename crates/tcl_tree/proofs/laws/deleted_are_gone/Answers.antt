use Rattle.tcl_tree.proofs.DeletionLemmas.{deleted_is_gone}
use Rattle.tcl_tree.proofs.laws.deleted_are_gone.Goals as goal

pub returns : goal.returns
returns c = λ t u p n r place drops parts named deep. deleted_is_gone t u p n parts drops r place named deep
