use Rattle.tcl_calls.proofs.Walking.{alone_test}
use Rattle.tcl_calls.proofs.walks.is_over.Goals as goal

pub returns-in-Some : goal.returns-in-Some
returns-in-Some c =
    alone_test c.args.walks.now c.in-Some.field-0-0.now c.in-Some.list.now c.args.turns c.len.result c.in-Some.ensures c.len.ensures
