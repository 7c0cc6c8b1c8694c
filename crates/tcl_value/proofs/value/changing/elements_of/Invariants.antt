use Rattle.std.proofs.Common.{◌≡◌, take}
use Rattle.tcl_value.specs.Texts.{texts, AreElements}
use Rattle.tcl_value.proofs.value.changing.elements_of.Given as goal

abbrev pub invariant-values : goal.invariant-values
invariant-values l = record { same : texts l.elements.items ≡ take l.value-index l.values; made : AreElements l.elements.items }
