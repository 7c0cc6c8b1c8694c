use Rattle.std.proofs.Common.{◌≡◌}
use Rattle.tcl_prepared.proofs.lists.keep_in_values.Given as goal

abbrev pub invariant-places : goal.invariant-places
invariant-places l = l.values.items ≡ l.initial.values.items
