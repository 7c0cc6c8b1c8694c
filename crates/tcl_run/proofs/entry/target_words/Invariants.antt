use Rattle.std.proofs.Common.{◌≡◌, ◌++◌, take}
use Rattle.tcl_run.proofs.entry.target_words.Given as goal

abbrev pub invariant-own : goal.invariant-own
invariant-own l = l.words.items ≡ take l.word-index l.own

abbrev pub invariant-args-2 : goal.invariant-args-2
invariant-args-2 l = l.words.items ≡ l.fn.own ++ take l.word-index l.args
