use Rattle.std.proofs.Common.{◌≡◌, ◌++◌, drop, Ok}
use Rattle.tcl_words.specs.Outcomes.{next}
use Rattle.tcl_lists.specs.Sorting.{numbered}
use Rattle.tcl_lists.proofs.numbers.numbered.Given as goal

abbrev pub invariant-elements : goal.invariant-elements
invariant-elements l = next (numbered l.style (drop l.index l.list)) (λ rest. Ok (l.rows.items ++ rest)) ≡ numbered l.style l.list
