-- Stops, as they are told to a caller in another interpreter.
use Rattle.std.proofs.Common.{◌≡◌, ℕ, ◌+◌, ◌-◌, ◌≤◌, Bool, true, false, refl, ap, arith}
use Rattle.std.specs.Prelude.{nat_lt}
use Rattle.std.proofs.lemmas.Bool.Decides.{nat_tests}
use Rattle.tcl_core.specs.Endings.{Kind}
use Rattle.tcl_core.specs.Endings.Reply.{Stop}
use Rattle.tcl_core.specs.Runs.{lessened}

-- The call went up and then down by a way whose first names it has in common with the caller's own last names: the interpreter that is full stands above both.
pub told_above : (levels up down common given : ℕ) (m : Kind) → common ≤ down → common ≤ up → down - common ≤ levels → given ≡ (levels - (down - common)) + (up - common) →
    Stop given m ≡ lessened (nat_lt (levels + common) down) (levels + up - down) m
told_above levels up down common given m h k l e = by (nat_lt (levels + common) down) refl
  where
    by : (b : Bool) → nat_lt (levels + common) down ≡ b → Stop given m ≡ lessened b (levels + up - down) m
    by true f = absurd (grind (arith, nat_tests))
    by false f = ap (λ n. Stop n m) (omega arith)
