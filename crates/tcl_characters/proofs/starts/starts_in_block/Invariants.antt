use Rattle.std.proofs.Common.{◌≡◌, take}
use Rattle.tcl_characters.proofs.StartLemmas.{starts}
use Rattle.tcl_characters.proofs.starts.starts_in_block.Given as goal

abbrev pub invariant-bytes : goal.invariant-bytes
invariant-bytes l = l.count ≡ starts (take l.byte-index l.block)
