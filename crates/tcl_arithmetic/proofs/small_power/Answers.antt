use Rattle.std.specs.Int.{int_pow, w64}
use Rattle.std.proofs.Common.{rules, to_z, of_z}
use Rattle.tcl_arithmetic.specs.Results.{IsChecked}
use Rattle.tcl_arithmetic.proofs.Divisions.{plain}
use Rattle.tcl_arithmetic.proofs.PowerLaws.{checked_power}
use Rattle.tcl_arithmetic.proofs.small_power.Goals as goal

pub returns-clause-power : goal.returns-clause-power
returns-clause-power c =
    let given : IsChecked c.ok_or.result (int_pow (to_z w64 (of_z w64 c.args.base)) c.args.exponent) = search rules in
    checked_power _ c.args.base c.args.exponent c.ok_or.result (plain c.args.base c.ranges.base) given
