use Rattle.tcl_lists.proofs.NestedPlaces.{led_true}
use Rattle.tcl_lists.proofs.nested.remove_in_place.Goals as goal

pub returns-clause-changed : goal.returns-clause-changed
returns-clause-changed c = led_true c.remove_inside.result c.args.path.now c.args.key.now c.args.own.now c.remove_inside.new.self c.remove_inside.ensures.removed
