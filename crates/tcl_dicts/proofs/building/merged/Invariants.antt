use Rattle.std.proofs.Common.{◌≡◌, drop}
use Rattle.tcl_dicts.specs.Dicts.{merged}
use Rattle.tcl_dicts.proofs.building.merged.Given as goal

abbrev pub invariant-words : goal.invariant-words
invariant-words l = merged l.made (drop l.word-index l.words) ≡ merged l.fn.dict l.words
