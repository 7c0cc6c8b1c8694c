use Rattle.std.proofs.Common.{◌≡◌, ◌≤◌, ◌+◌, drop}
use Rattle.tcl_text.specs.Measuring.{tally_with, depth_of}
use Rattle.tcl_text.proofs.measured.Tally.with_text.Given as goal

abbrev pub invariant-bytes : goal.invariant-bytes
invariant-bytes l = record {
  whole : tally_with l.tally (drop l.byte-index l.text) ≡ tally_with l.fn.self l.text;
  special : l.tally.special ≤ l.fn.self.special + l.byte-index;
  depth : depth_of l.tally.braces ≤ depth_of l.fn.self.braces + l.byte-index;
}
