use Rattle.std.proofs.Common.{◌≡◌, drop}
use Rattle.tcl_lists.specs.Lists.{at_indexes}
use Rattle.tcl_lists.proofs.indexes.at_indexes.Given as goal

abbrev pub invariant-indexes : goal.invariant-indexes
invariant-indexes l = at_indexes l.style l.at (drop l.index-index l.indexes) ≡ at_indexes l.style l.fn.value l.indexes
