use Rattle.std.proofs.Common.{length, ◌-◌, ◌≤◌}
use Rattle.std.specs.List.{prefix_len}
use Rattle.tcl_text.specs.Reading.{is_plain, stop_test}
use Rattle.tcl_text.proofs.list.UnitEnd.split_plain.Given as goal

abbrev pub invariant-plain : goal.invariant-plain
invariant-plain l = record {
  plain : l.count ≤ prefix_len (is_plain (stop_test l.self)) l.text;
}

abbrev pub decreases-plain : goal.decreases-plain
decreases-plain l = length l.bytes - l.count
