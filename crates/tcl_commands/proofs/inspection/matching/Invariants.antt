use Rattle.std.proofs.Common.{◌≡◌, ◌++◌, drop}
use Rattle.tcl_language.specs.Inspection.{matching}
use Rattle.tcl_commands.proofs.inspection.matching.Given as goal

abbrev pub invariant-names : goal.invariant-names
invariant-names l = matching l.pattern l.names ≡ l.kept.items ++ matching l.pattern (drop l.name-index l.names)
