use Rattle.std.proofs.Common.{◌≡◌, drop}
use Rattle.tcl_dicts.specs.Dicts.{without_words}
use Rattle.tcl_dicts.proofs.building.without_words.Given as goal

abbrev pub invariant-keys : goal.invariant-keys
invariant-keys l = without_words l.made (drop l.key-index l.words) ≡ without_words l.fn.dict l.words
