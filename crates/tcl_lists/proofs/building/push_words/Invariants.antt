use Rattle.std.proofs.Common.{◌≡◌, ◌++◌, take}
use Rattle.tcl_lists.proofs.building.push_words.Given as goal

abbrev pub invariant-words : goal.invariant-words
invariant-words l = l.made ≡ l.initial.made ++ take l.word-index l.words
