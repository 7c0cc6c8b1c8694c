use Rattle.std.proofs.Common.{◌≡◌, ◌++◌, length, string_bytes, flat_map}
use Rattle.std.specs.Str.Iter.{chars_rest}
use Rattle.tcl_text.specs.Writing.{escaped_byte, Extends}
use Rattle.tcl_text.proofs.list_writing.push_escaped.Given as goal

abbrev pub invariant-characters : goal.invariant-characters
invariant-characters l = record {
  whole : string_bytes l.out ++ flat_map escaped_byte (chars_rest l.rest) ≡ string_bytes l.fn.out ++ flat_map escaped_byte l.text;
  kept : Extends (string_bytes l.fn.out) (string_bytes l.out);
}

abbrev pub decreases-characters : goal.decreases-characters
decreases-characters l = length (chars_rest l.rest)
