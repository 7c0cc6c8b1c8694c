use Rattle.std.proofs.Common.{◌≡◌, ◌++◌, drop}
use Rattle.tcl_dicts.specs.Changing.{joined}
use Rattle.tcl_dicts.proofs.values.with_texts.Given as goal

abbrev pub invariant-words : goal.invariant-words
invariant-words l = l.made ++ joined (drop l.word-index l.words) ≡ l.fn.value ++ joined l.words
