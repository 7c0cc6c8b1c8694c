use Rattle.std.proofs.Common.{◌≡◌, ◌++◌, drop, Ok}
use Rattle.tcl_words.specs.Outcomes.{next}
use Rattle.tcl_lists.specs.Lists.{indexes_of}
use Rattle.tcl_lists.proofs.indexes.indexes_of.Given as goal

abbrev pub invariant-words : goal.invariant-words
invariant-words l = next (indexes_of (drop l.word-index l.words)) (λ rest. Ok (l.made.items ++ rest)) ≡ indexes_of l.words
