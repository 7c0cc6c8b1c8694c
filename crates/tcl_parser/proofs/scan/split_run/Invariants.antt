use Rattle.std.proofs.Common.{length, ◌-◌, ◌≤◌}
use Rattle.tcl_parser.specs.Runs.{run_len}
use Rattle.tcl_parser.proofs.scan.split_run.Given as goal

abbrev pub invariant-bytes : goal.invariant-bytes
invariant-bytes l = l.count ≤ run_len l.run l.text

abbrev pub decreases-bytes : goal.decreases-bytes
decreases-bytes l = length l.bytes - l.count
