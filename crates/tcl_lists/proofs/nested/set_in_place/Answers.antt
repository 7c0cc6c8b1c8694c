use Rattle.tcl_lists.proofs.NestedPlaces.{made_true}
use Rattle.tcl_lists.proofs.nested.set_in_place.Goals as goal

pub returns-clause-changed : goal.returns-clause-changed
returns-clause-changed c = made_true c.set_inside.result c.args.path.now c.args.value.now c.args.own.now c.set_inside.new.self c.set_inside.ensures.set
