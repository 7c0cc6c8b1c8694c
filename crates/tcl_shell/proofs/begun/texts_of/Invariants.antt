use Rattle.std.proofs.Common.{◌≡◌, ◌++◌, map, drop}
use Rattle.tcl_shell.proofs.begun.texts_of.Given as goal

abbrev pub invariant-words : goal.invariant-words
invariant-words l = l.texts.items ++ map (λ word. word.now) (drop l.word-index l.words) ≡ map (λ word. word.now) l.words
