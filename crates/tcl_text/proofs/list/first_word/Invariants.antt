use Rattle.std.proofs.Common.{length, not, ◌-◌, ◌≤◌}
use Rattle.std.specs.List.{prefix_len}
use Rattle.tcl_text.specs.Lists.{is_white}
use Rattle.tcl_text.proofs.list.first_word.Given as goal

abbrev pub invariant-dark : goal.invariant-dark
invariant-dark l = record { dark : l.count ≤ prefix_len (λ b. not (is_white b)) l.text }

abbrev pub decreases-dark : goal.decreases-dark
decreases-dark l = length l.bytes - l.count
