use Rattle.std.proofs.Common.{◌≡◌, ◌≤◌, Some, take}
use Rattle.tcl_text.specs.Lists.{count_all, none_open}
use Rattle.tcl_text.proofs.list.split_braced.Given as goal

abbrev pub invariant-bytes : goal.invariant-bytes
invariant-bytes l = record {
  counted : count_all (take l.i l.text) none_open ≡ Some l.braces;
  bounded : l.braces.depth ≤ l.i;
}
