use Rattle.tcl_tree.specs.Gone.{Holds}
use Rattle.tcl_tree.specs.TreeOf.{tree_of}
use Rattle.tcl_calls.proofs.Crossing.{told_as_it_is, told_in_place}
use Rattle.tcl_calls.proofs.carrying.return_to_caller.Goals as goal

pub returns-in_ok-notify-in-Some-clause-comes : goal.returns-in_ok-notify-in-Some-clause-comes
returns-in_ok-notify-in-Some-clause-comes g c =
    let instead = c.in-Some.ensures.instead in
    told_in_place g.O.Outside.goes (tree_of c.args.tree.now) (λ p d. Holds c.args.tree.now c.args.caller p d) c.args.outside.now c.notify.new.self c.args.up c.args.down.now c.args.ended c.in-Some.instead instead.0 instead.1 instead.2 c.in_ok-notify-in-Some.ensures.told

pub returns-in_ok-notify-in-None-clause-comes : goal.returns-in_ok-notify-in-None-clause-comes
returns-in_ok-notify-in-None-clause-comes g c =
    told_as_it_is g.O.Outside.goes (tree_of c.args.tree.now) (λ p d. Holds c.args.tree.now c.args.caller p d) c.args.outside.now c.notify-in-None.new.self c.args.up c.args.down.now c.args.ended c.in-None.ensures.itself c.in_ok-notify-in-None.ensures.told
