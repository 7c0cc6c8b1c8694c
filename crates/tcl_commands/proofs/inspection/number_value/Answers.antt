use Rattle.std.proofs.Common.{rules, ◌≡◌, ◌≤◌, length, ap, arith}
use Rattle.std.specs.Fmt.{decimal}
use Rattle.std.proofs.lemmas.Fmt.{length-decimal-le}
use Rattle.tcl_commands.proofs.inspection.number_value.Goals as goal

pub from_short_text-requires : goal.from_short_text-requires
from_short_text-requires c =
    let same : c.in_ok-from_string.field-0 ≡ decimal c.args.n = search rules in
    let short : length (decimal c.args.n) ≤ 20 = length-decimal-le 20 c.args.n (omega arith) (omega (arith, c.ranges.n.fits)) (omega (arith, c.ranges.n.fits)) in
    omega (arith, ap length same)
