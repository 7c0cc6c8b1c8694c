use Rattle.std.proofs.Common.{length, ◌-◌, ◌≤◌, IsCharBoundary}
use Rattle.std.specs.List.{prefix_len}
use Rattle.tcl_text.specs.Lists.{is_white}
use Rattle.tcl_text.proofs.list.skip_white.Given as goal

abbrev pub invariant-white : goal.invariant-white
invariant-white l = record {
  white : l.count ≤ prefix_len is_white l.text;
  seam : IsCharBoundary l.text l.count;
}

abbrev pub decreases-white : goal.decreases-white
decreases-white l = length l.bytes - l.count
