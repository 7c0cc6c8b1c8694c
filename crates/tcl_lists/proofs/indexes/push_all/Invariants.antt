use Rattle.std.proofs.Common.{◌≡◌, ◌++◌, take}
use Rattle.tcl_lists.proofs.indexes.push_all.Given as goal

abbrev pub invariant-elements : goal.invariant-elements
invariant-elements l = l.made.items ≡ l.initial.made.items ++ take l.index l.list
