use Rattle.std.proofs.Common.{◌≡◌, take}
use Rattle.tcl_calls.proofs.walks.VariableNames.new.Given as goal

abbrev pub invariant-names : goal.invariant-names
invariant-names l = l.names.items ≡ take l.index l.list
