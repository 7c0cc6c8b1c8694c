use Rattle.std.proofs.Common.{◌≡◌, ◌+◌, ◌*◌, drop, length}
use Rattle.std.specs.Prelude.{◌==◌, ◌↔◌}
use Rattle.tcl_value.specs.Writing.{write, write_from}
use Rattle.tcl_value.specs.Texts.{texts, flat, pairs}
use Rattle.tcl_value.specs.declared.entries.Entries.TheDeep.{deep-Element}
use Rattle.tcl_value.proofs.+compare.Given as goal

abbrev pub invariant-entries::Entries::is_text-entries :
    goal.invariant-entries::Entries::is_text-entries
invariant-entries::Entries::is_text-entries l = (l.text ≡ write (flat (pairs l.self-inside.keys.keys (texts l.value-items)))) ↔ (l.rest ≡ write_from (l.index == 0) (flat (drop l.index (pairs l.self-inside.keys.keys (texts l.value-items)))))

abbrev pub invariant-items::Items::is_text-elements :
    goal.invariant-items::Items::is_text-elements
invariant-items::Items::is_text-elements l = (l.text ≡ write (texts l.element-items)) ↔ (l.rest ≡ write_from (l.index == 0) (drop l.index (texts l.element-items)))

abbrev pub decreases-element::Element::is_written : goal.decreases-element::Element::is_written
decreases-element::Element::is_written l = 3 * deep-Element l.self.now

abbrev pub decreases-element::Element::behind : goal.decreases-element::Element::behind
decreases-element::Element::behind l = 3 * deep-Element l.self.now + 1

abbrev pub decreases-items::Items::is_text : goal.decreases-items::Items::is_text
decreases-items::Items::is_text l = 3 * length (write l.self.now) + 2

abbrev pub decreases-entries::Entries::is_text : goal.decreases-entries::Entries::is_text
decreases-entries::Entries::is_text l = 3 * length (write (flat l.self.now)) + 2
