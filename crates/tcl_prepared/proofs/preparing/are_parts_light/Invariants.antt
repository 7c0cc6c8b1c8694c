use Rattle.std.proofs.Common.{◌≤◌, take}
use Rattle.tcl_prepared.specs.Brackets.{parts_weight}
use Rattle.tcl_prepared.proofs.preparing.are_parts_light.Given as goal

abbrev pub invariant-parts : goal.invariant-parts
invariant-parts l = parts_weight (take l.part-index l.parts) ≤ l.most
