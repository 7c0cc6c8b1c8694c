use Rattle.tcl_lists.proofs.Undone.{undone, letters_undone}
use Rattle.tcl_lists.proofs.laws.join_undoes_split.Goals as goal

pub returns-clause-separator : goal.returns-clause-separator
returns-clause-separator c = undone

pub returns-clause-letters : goal.returns-clause-letters
returns-clause-letters c = letters_undone
