use Rattle.std.proofs.Common.{IsTrue, nat_lt, arith}
use Rattle.std.proofs.lemmas.Bool.Decides.{nat_tests}
use Rattle.tcl_calls.proofs.Ends.{past_white}
use Rattle.tcl_calls.proofs.scripts.is_plain_byte.Goals as goal

pub returns-then-byte-gt32-clause-kept : goal.returns-then-byte-gt32-clause-kept
returns-then-byte-gt32-clause-kept c = λ h.
    let past : IsTrue (nat_lt 32 c.args.byte) = grind (arith, nat_tests, c.if-byte-gt32.true) in
    past_white c.args.byte past
