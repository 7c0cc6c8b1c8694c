use Rattle.std.proofs.Common.{◌≡◌, ◌<◌, ℕ, List, length, subst, arith}
use Rattle.std.proofs.lemmas.Bool.Decides.{nat_tests}
use Rattle.tcl_lists.specs.Joining.{trimmed}
use Rattle.tcl_calls.proofs.Ends.{plain_ends}
use Rattle.tcl_calls.proofs.scripts.has_plain_ends.Goals as goal

pub returns-then-is_plain_byte : goal.returns-then-is_plain_byte
returns-then-is_plain_byte c = λ h.
    let bytes = c.as_bytes-bytes.result.now in
    let same : bytes ≡ c.args.text.now = c.as_bytes-bytes.ensures.value in
    let some : 0 < length bytes = grind (arith, nat_tests, c.if-is_empty.ensures) in
    subst (λ (text : List ℕ). trimmed text ≡ text) same
    (plain_ends bytes c.as_bytes-bytes.ensures.utf8 some
    (c.is_plain_byte.ensures.ascii c.if-is_plain_byte.true) (c.is_plain_byte-then-is_plain_byte.ensures.ascii h)
    (c.is_plain_byte.ensures.kept c.if-is_plain_byte.true) (c.is_plain_byte-then-is_plain_byte.ensures.kept h))
