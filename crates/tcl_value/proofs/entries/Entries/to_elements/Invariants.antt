use Rattle.std.proofs.Common.{◌≡◌, take}
use Rattle.tcl_value.specs.Texts.{texts, flat, pairs, AreElements}
use Rattle.tcl_value.proofs.entries.Entries.to_elements.Given as goal

abbrev pub invariant-entries : goal.invariant-entries
invariant-entries l = record { same : texts l.elements.items ≡ flat (take l.index (pairs l.self-inside.keys.keys (texts l.value-items))); made : AreElements l.elements.items }
