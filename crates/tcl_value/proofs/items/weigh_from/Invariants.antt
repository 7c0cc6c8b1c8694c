use Rattle.std.proofs.Common.{◌≡◌, ◌*◌, ◌≤◌, take}
use Rattle.tcl_value.specs.Texts.{texts, weight_from}
use Rattle.tcl_value.proofs.items.weigh_from.Given as goal

abbrev pub invariant-elements : goal.invariant-elements
invariant-elements l = record { weighs : l.weight ≡ weight_from l.first (take l.index (texts l.elements)); few : l.weight ≤ l.index * 33554435 }
