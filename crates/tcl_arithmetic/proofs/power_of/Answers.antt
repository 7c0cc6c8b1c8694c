use Rattle.std.proofs.Common.{◌≡◌, ◌∙◌, subst, ℤ, ℕ}
use Rattle.tcl_arithmetic.specs.Powers.{power, reduced}
use Rattle.tcl_arithmetic.specs.Results.{IsChecked}
use Rattle.tcl_arithmetic.proofs.Divisions.{plain}
use Rattle.tcl_arithmetic.proofs.PowerLaws.{reduced_power}
use Rattle.tcl_arithmetic.proofs.power_of.Goals as goal

pub returns-clause-power : goal.returns-clause-power
returns-clause-power c = λ n e.
    let same : c.reduced.result ≡ reduced n = c.reduced.ensures n (plain c.args.exponent c.ranges.exponent ∙ e) in
    let at_base = plain c.args.base c.ranges.base in
    reduced_power c.args.base n c.small_power.result c.small_power.ensures.fits
    (subst (λ (m : ℕ). IsChecked c.small_power.result (power c.args.base m)) same
    (subst (λ (b : ℤ). IsChecked c.small_power.result (power b c.reduced.result)) at_base c.small_power.ensures.power))
