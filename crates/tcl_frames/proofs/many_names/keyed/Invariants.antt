use Rattle.std.proofs.Common.{◌≡◌, ◌++◌, reverse, vec_len}
use Rattle.tcl_frames.specs.Entries.{named}
use Rattle.tcl_frames.proofs.many_names.keyed.Given as goal

abbrev pub invariant-entries : goal.invariant-entries
invariant-entries g l = l.left.items ++ reverse (named l.keyed.items) ≡ l.fn.entries.items

abbrev pub decreases-entries : goal.decreases-entries
decreases-entries g l = vec_len l.left
