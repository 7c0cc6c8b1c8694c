use Rattle.std.proofs.Common.{◌<◌, ◌^◌, subst, sym, arith, List, ℕ}
use Rattle.std.specs.Fmt.{decimal}
use Rattle.std.proofs.lemmas.Fmt.{length-decimal-le}
use Rattle.tcl_value.specs.Limits.{IsWithin}
use Rattle.tcl_calls.proofs.questions.number_value.Goals as goal

few_digits : (n : ℕ) → n < 2 ^ 64 → IsWithin (decimal n)
few_digits n h = omega (arith, length-decimal-le 20 n (omega arith) (omega arith) (omega arith))

pub from_short_text-requires : goal.from_short_text-requires
from_short_text-requires c = subst (λ (t : List ℕ). IsWithin t) (sym c.in_ok-number_text.ensures) (few_digits c.args.n (omega arith))
