use Rattle.std.proofs.Common.{◌≡◌, ◌++◌, drop}
use Rattle.tcl_lists.specs.Sorting.{kept, same_number, elements_of}
use Rattle.tcl_lists.proofs.numbers.rows_value.Given as goal

abbrev pub invariant-rows : goal.invariant-rows
invariant-rows l = l.made ++ elements_of (kept same_number l.unique (drop l.index l.rows)) ≡ elements_of (kept same_number l.unique l.rows)
