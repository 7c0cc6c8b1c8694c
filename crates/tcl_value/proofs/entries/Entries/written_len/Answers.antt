use Rattle.std.proofs.Common.{arith, ap}
use Rattle.tcl_value.specs.Texts.{flat}
use Rattle.tcl_value.proofs.Weights.{length-kept}
use Rattle.tcl_value.proofs.entries.Entries.written_len.Goals as goal

pub overflow_cast-self-inside : goal.overflow_cast-self-inside
overflow_cast-self-inside c =
    let len = length-kept c.self.inside.weight _ (flat c.args.self.now) c.self.invariant.weighs (ap flat c.self.view_is) in
    omega arith

pub returns : goal.returns
returns c =
    let len = length-kept c.self.inside.weight _ (flat c.args.self.now) c.self.invariant.weighs (ap flat c.self.view_is) in
    omega arith
