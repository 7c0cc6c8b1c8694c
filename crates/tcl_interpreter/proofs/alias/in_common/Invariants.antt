use Rattle.std.proofs.Common.{◌≡◌, ◌+◌, ◌≤◌, ◌-◌, length, drop}
use Rattle.tcl_core.specs.Paths.{together}
use Rattle.tcl_interpreter.proofs.alias.in_common.Given as goal

-- so many names are the same so far
abbrev pub invariant-names : goal.invariant-names
invariant-names l = record {
  these : l.count ≤ length l.these;
  those : l.count ≤ length l.those;
  so_far : together l.these l.those ≡ l.count + together (drop l.count l.these) (drop l.count l.those);
}

abbrev pub decreases-names : goal.decreases-names
decreases-names l = length l.these - l.count
