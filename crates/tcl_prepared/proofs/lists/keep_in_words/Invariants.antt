use Rattle.std.proofs.Common.{◌≡◌}
use Rattle.tcl_prepared.proofs.lists.keep_in_words.Given as goal

abbrev pub invariant-places : goal.invariant-places
invariant-places l = l.words.items ≡ l.initial.words.items
