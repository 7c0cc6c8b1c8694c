use Rattle.std.proofs.Common.{◌≡◌, ◌≤◌, Some, take, false}
use Rattle.tcl_text.specs.Lists.{count_all, none_open}
use Rattle.tcl_text.specs.Writing.{last_byte, joins_lines}
use Rattle.tcl_text.proofs.list_writing.fits_braces.Given as goal

abbrev pub invariant-bytes : goal.invariant-bytes
invariant-bytes l = record {
  counted : count_all (take l.i l.element) none_open ≡ Some l.braces;
  bounded : l.braces.depth ≤ l.i;
  last : last_byte 0 (take l.i l.element) ≡ l.last;
  apart : joins_lines 0 (take l.i l.element) ≡ false;
}
