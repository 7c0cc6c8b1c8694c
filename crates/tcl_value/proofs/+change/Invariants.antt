use Rattle.std.proofs.Common.{◌+◌, ◌*◌, length}
use Rattle.tcl_value.proofs.+change.Given as goal

abbrev pub decreases-entries::Entries::change : goal.decreases-entries::Entries::change
decreases-entries::Entries::change l = 4 * length l.path.now

abbrev pub decreases-entries::Entries::change_deeper : goal.decreases-entries::Entries::change_deeper
decreases-entries::Entries::change_deeper l = 4 * length l.path.now + 3

abbrev pub decreases-element::Element::change : goal.decreases-element::Element::change
decreases-element::Element::change l = 4 * length l.path.now + 2

abbrev pub decreases-element::change_shared : goal.decreases-element::change_shared
decreases-element::change_shared l = 4 * length l.path.now + 1
