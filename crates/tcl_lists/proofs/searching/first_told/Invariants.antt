use Rattle.std.proofs.Common.{◌≡◌, drop}
use Rattle.tcl_lists.specs.Searching.{placed, taken}
use Rattle.tcl_lists.proofs.searching.first_told.Given as goal

abbrev pub invariant-elements : goal.invariant-elements
invariant-elements l = taken l.search l.pattern (placed l.index (drop l.index l.list)) ≡ taken l.search l.pattern (placed 0 l.list)
