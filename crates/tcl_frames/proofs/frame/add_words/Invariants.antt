use Rattle.std.proofs.Common.{◌≡◌, ◌++◌, ◌∷◌, [], take}
use Rattle.tcl_frames.proofs.frame.add_words.Given as goal

abbrev pub invariant-args-2 : goal.invariant-args-2
invariant-args-2 l = l.words.items ≡ (l.fn.words.items ++ l.word ∷ []) ++ take l.arg-index l.args
