use Rattle.std.proofs.Common.{◌≡◌, ◌++◌, take}
use Rattle.tcl_calls.proofs.words.add_each.Given as goal

abbrev pub invariant-elements : goal.invariant-elements
invariant-elements l = l.words.items ≡ l.fn.words.items ++ take l.index l.list
