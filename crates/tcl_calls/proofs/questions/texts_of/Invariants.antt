use Rattle.std.proofs.Common.{◌≡◌, take}
use Rattle.tcl_calls.proofs.questions.texts_of.Given as goal

abbrev pub invariant-values : goal.invariant-values
invariant-values l = l.texts.items ≡ take l.value-index l.values
