use Rattle.std.proofs.Common.{◌≡◌, ◌≤◌, ◌+◌, ◌++◌, map, reverse, vec_len}
use Rattle.std.specs.Map.{keys_of}
use Rattle.std.specs.String.{string_bytes}
use Rattle.std.specs.Vec.{vec_capacity}
use Rattle.tcl_frames.specs.Entries.{named}
use Rattle.tcl_frames.proofs.many_names.renamed.Given as goal

abbrev pub invariant-entries : goal.invariant-entries
invariant-entries g l = record {
  kept : l.left.items ++ reverse (named l.keyed.items) ≡ l.fn.entries.items;
  same : map string_bytes l.names.items ≡ keys_of l.left.items;
  as_many : vec_len l.names ≡ vec_len l.left;
  total : vec_len l.left + vec_len l.keyed ≡ vec_len l.fn.entries;
  room : vec_len l.fn.entries ≤ vec_capacity l.keyed;
}

abbrev pub decreases-entries : goal.decreases-entries
decreases-entries g l = vec_len l.left
