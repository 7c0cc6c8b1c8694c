use Rattle.std.proofs.Common.{◌≡◌, take}
use Rattle.tcl_lists.proofs.ordering.rows_of.Given as goal

abbrev pub invariant-elements : goal.invariant-elements
invariant-elements l = l.rows.items ≡ take l.index l.list
