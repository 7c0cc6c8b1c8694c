use Rattle.std.proofs.Common.{arith, ap}
use Rattle.tcl_value.specs.Texts.{flat}
use Rattle.tcl_value.proofs.Weights.{length-kept}
use Rattle.std.proofs.lemmas.Bool.Decides.{nat_tests}
use Rattle.tcl_value.proofs.entries.Entries.is_within.Goals as goal

pub returns : goal.returns
returns c =
    let len = length-kept c.self.inside.weight _ (flat c.args.self.now) c.self.invariant.weighs (ap flat c.self.view_is) in
    (λ h. grind (arith, nat_tests), λ h. grind (arith, nat_tests))
