use Rattle.std.proofs.Common.{◌≡◌, ◌≤◌, reverse, vec_len}
use Rattle.std.specs.Str.{bytes_eq}
use Rattle.indexmap.specs.IndexMap.{insert_all, spare}
use Rattle.tcl_frames.specs.Entries.{named}
use Rattle.tcl_frames.proofs.many_names.insert_reserved.Given as goal

abbrev pub invariant-entries : goal.invariant-entries
invariant-entries g l = record {
  room : vec_len l.left ≤ spare l.entries;
  inserted : insert_all bytes_eq (named l.entries.entries) (reverse (named l.left.items)) ≡ insert_all bytes_eq (named l.fn.entries.entries) (reverse (named l.fn.keyed.items));
}

abbrev pub decreases-entries : goal.decreases-entries
decreases-entries g l = vec_len l.left
