use Rattle.std.proofs.Common.{◌≡◌, ◌++◌}
use Rattle.tcl_serve.proofs.acting.names_of.Given as goal

abbrev pub invariant-names : goal.invariant-names
invariant-names l = l.made.items ++ l.name-iterator ≡ l.fn.names
