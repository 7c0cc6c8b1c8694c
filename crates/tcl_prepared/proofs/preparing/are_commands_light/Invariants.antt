use Rattle.std.proofs.Common.{◌≤◌, take}
use Rattle.tcl_prepared.specs.Brackets.{commands_weight}
use Rattle.tcl_prepared.proofs.preparing.are_commands_light.Given as goal

abbrev pub invariant-commands : goal.invariant-commands
invariant-commands l = commands_weight (take l.command-index l.commands) ≤ l.most
