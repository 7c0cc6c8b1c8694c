use Rattle.std.proofs.Common.{◌≡◌, take}
use Rattle.tcl_value.specs.Texts.{texts, AreElements}
use Rattle.tcl_value.proofs.list.elements_of.Given as goal

abbrev pub invariant-texts : goal.invariant-texts
invariant-texts l = record { same : texts l.elements.items ≡ take l.text-index l.texts; made : AreElements l.elements.items }
