use Rattle.std.proofs.Common.{◌≡◌, take}
use Rattle.tcl_commands.proofs.inspection.values_of.Given as goal

abbrev pub invariant-texts : goal.invariant-texts
invariant-texts l = l.values.items ≡ take l.text-index l.texts
