use Rattle.std.proofs.Common.{◌≡◌, length}
use Rattle.tcl_dicts.specs.Dicts.{put_words}
use Rattle.tcl_dicts.proofs.building.put_words.Given as goal

abbrev pub invariant-pairs : goal.invariant-pairs
invariant-pairs l = put_words l.made l.left ≡ put_words l.fn.dict l.words

abbrev pub decreases-pairs : goal.decreases-pairs
decreases-pairs l = length l.left
