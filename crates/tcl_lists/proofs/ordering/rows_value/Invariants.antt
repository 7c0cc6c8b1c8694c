use Rattle.std.proofs.Common.{◌≡◌, ◌++◌, drop}
use Rattle.tcl_lists.specs.Sorting.{kept, same_text}
use Rattle.tcl_lists.proofs.ordering.rows_value.Given as goal

abbrev pub invariant-rows : goal.invariant-rows
invariant-rows l = l.made ++ kept same_text l.unique (drop l.index l.rows) ≡ kept same_text l.unique l.rows
