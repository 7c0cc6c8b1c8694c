use Rattle.std.proofs.Common.{arith, refl, take, drop}
use Rattle.std.proofs.lemmas.Bool.Decides.{nat_tests}
use Rattle.tcl_value.proofs.Weights.{length-write}
use Rattle.tcl_value.proofs.items.Items.is_part_within.Goals as goal

pub returns-then-has_small_parts : goal.returns-then-has_small_parts
returns-then-has_small_parts c =
    let len = length-write (drop c.args.from (take c.args.to c.args.self.now)) in
    let most = c.has_small_parts.ensures c.if-has_small_parts.true c.args.to c.if-from-to.true c.requires.within in
    (λ h. omega (arith, len, most), λ h. refl)

pub returns : goal.returns
returns c =
    let len = length-write (drop c.args.from (take c.args.to c.args.self.now)) in
    let weighs = c.part_weight.ensures.weight in
    (λ h. grind (arith, nat_tests), λ h. grind (arith, nat_tests))
