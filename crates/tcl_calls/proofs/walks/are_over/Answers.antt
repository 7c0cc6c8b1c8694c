use Rattle.std.proofs.Common.{◌<◌, ◌*◌, length, sym, ◌∙◌, arith}
use Rattle.tcl_calls.proofs.Walking.{not_over}
use Rattle.tcl_calls.proofs.walks.are_over.Goals as goal

pub returns-then-saturating_mul-len : goal.returns-then-saturating_mul-len
returns-then-saturating_mul-len c =
    let test = c.if-saturating_mul-len.true in
    let more : c.args.turns * length c.walk-item.result.names < length c.walk-item.result.elements = grind (arith, test) in
    sym (c.walks.invariant ∙ not_over c.args.turns c.args.walks.now c.walks.walk-index c.walk-item.result c.walks-test.true c.walk-item.is more)
