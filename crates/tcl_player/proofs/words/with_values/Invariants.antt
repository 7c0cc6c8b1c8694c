use Rattle.std.proofs.Common.{◌≡◌, ◌++◌, take}
use Rattle.tcl_player.proofs.words.with_values.Given as goal

abbrev pub invariant-values : goal.invariant-values
invariant-values l = l.words.items ≡ l.fn.front.items ++ take l.value-index l.values
