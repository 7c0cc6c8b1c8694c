use Rattle.std.proofs.Common.{◌≡◌, ◌*◌, [], take}
use Rattle.tcl_value.specs.Dicts.{put_all}
use Rattle.tcl_value.proofs.entries.Entries.read.Given as goal

abbrev pub invariant-pairs : goal.invariant-pairs
invariant-pairs l = l.entries ≡ put_all [] (take (2 * l.pair) l.items)
