use Rattle.std.proofs.Common.{◌≤◌, take}
use Rattle.tcl_prepared.specs.Brackets.{words_weight}
use Rattle.tcl_prepared.proofs.preparing.are_words_light.Given as goal

abbrev pub invariant-words : goal.invariant-words
invariant-words l = words_weight (take l.word-index l.words) ≤ l.most
