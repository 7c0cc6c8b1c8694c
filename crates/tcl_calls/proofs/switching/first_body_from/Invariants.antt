use Rattle.std.proofs.Common.{◌≡◌, ◌*◌, drop}
use Rattle.tcl_language.specs.Switching.{first_body}
use Rattle.tcl_calls.proofs.switching.first_body_from.Given as goal

abbrev pub invariant-bodies : goal.invariant-bodies
invariant-bodies l = first_body (drop (2 * l.fn.first) l.fn.pairs) ≡ first_body (drop (2 * l.pair) l.fn.pairs)
