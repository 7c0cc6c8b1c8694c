use Rattle.std.proofs.Common.{◌≡◌, ◌<◌, take, length, IfSome}
use Rattle.tcl_text.specs.Indexes.{last_operator}
use Rattle.tcl_text.proofs.index.last_operator.Given as goal

abbrev pub invariant-bytes : goal.invariant-bytes
invariant-bytes l = (l.found ≡ last_operator (take l.i l.text)) × IfSome l.found (λ at. at < length l.text)
