use Rattle.std.proofs.Common.{length, ◌-◌, ◌≤◌, IsCharBoundary}
use Rattle.std.specs.List.{prefix_len}
use Rattle.tcl_text.specs.Backslash.{is_blank}
use Rattle.tcl_text.proofs.backslash.skip_blanks.Given as goal

abbrev pub invariant-blanks : goal.invariant-blanks
invariant-blanks l = record {
  blanks : l.count ≤ prefix_len is_blank l.text;
  seam : IsCharBoundary l.text l.count;
}

abbrev pub decreases-blanks : goal.decreases-blanks
decreases-blanks l = length l.bytes - l.count
