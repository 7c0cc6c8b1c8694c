use Rattle.std.proofs.Common.{◌+◌, ◌*◌, length}
use Rattle.tcl_value.proofs.+put.Given as goal

abbrev pub decreases-items::Items::put : goal.decreases-items::Items::put
decreases-items::Items::put l = 4 * length l.path.now

abbrev pub decreases-items::Items::put_deeper : goal.decreases-items::Items::put_deeper
decreases-items::Items::put_deeper l = 4 * length l.path.now + 3

abbrev pub decreases-element::Element::put : goal.decreases-element::Element::put
decreases-element::Element::put l = 4 * length l.path.now + 2

abbrev pub decreases-element::put_inner : goal.decreases-element::put_inner
decreases-element::put_inner l = 4 * length l.path.now + 1
