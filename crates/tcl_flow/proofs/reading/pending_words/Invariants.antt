use Rattle.std.proofs.Common.{◌≡◌, ◌≤◌, ◌*◌, reverse, drop, length}
use Rattle.tcl_flow.specs.OptionReading.{options_in}
use Rattle.tcl_flow.proofs.reading.pending_words.Given as goal

abbrev pub decreases-options : goal.decreases-options
decreases-options l = l.left

abbrev pub invariant-options : goal.invariant-options
invariant-options l = (2 * l.left ≤ length l.words) × (l.pending.items ≡ reverse (options_in (drop (2 * l.left) l.words)))
