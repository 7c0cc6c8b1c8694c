use Rattle.std.proofs.Common.{◌≡◌, ◌+◌, drop, length}
use Rattle.std.specs.Prelude.{◌↔◌, ◌*◌}
use Rattle.tcl_value.specs.declared.entries.Entries.TheDeep.{deep-Element}
use Rattle.tcl_value.specs.Writing.{write}
use Rattle.tcl_value.specs.Texts.{texts, flat}
use Rattle.tcl_value.proofs.+same.Given as goal

abbrev pub invariant-entries::Entries::same-entries :
    goal.invariant-entries::Entries::same-entries
invariant-entries::Entries::same-entries l = (l.self ≡ l.other) ↔ (drop l.index l.self ≡ drop l.index l.other)

abbrev pub invariant-items::Items::same-elements :
    goal.invariant-items::Items::same-elements
invariant-items::Items::same-elements l = (texts l.element-items ≡ l.other) ↔ (drop l.index (texts l.element-items) ≡ drop l.index l.other)

abbrev pub invariant-items::Items::same_entries-entries :
    goal.invariant-items::Items::same_entries-entries
invariant-items::Items::same_entries-entries l = (l.self ≡ flat l.entries) ↔ (drop (2 * l.index) l.self ≡ flat (drop l.index l.entries))

abbrev pub decreases-element::Element::same : goal.decreases-element::Element::same
decreases-element::Element::same l = deep-Element l.self.now + deep-Element l.other.now

abbrev pub decreases-items::Items::same : goal.decreases-items::Items::same
decreases-items::Items::same l = length (write l.self.now) + length (write l.other.now) + 1

abbrev pub decreases-items::Items::same_entries : goal.decreases-items::Items::same_entries
decreases-items::Items::same_entries l = length (write l.self.now) + length (write (flat l.entries.now)) + 1

abbrev pub decreases-entries::Entries::same : goal.decreases-entries::Entries::same
decreases-entries::Entries::same l = length (write (flat l.self.now)) + length (write (flat l.other.now)) + 1
