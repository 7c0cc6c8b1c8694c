use Rattle.tcl_lists.proofs.NestedPlaces.{placed_found}
use Rattle.tcl_lists.proofs.nested.put_in_place.Goals as goal

pub returns-clause-changed : goal.returns-clause-changed
returns-clause-changed c =
    placed_found c.find_places.result c.put_inside.result c.args.style c.args.path.now c.new-places.result.items c.find_places.new.places.items c.deref.result.now c.args.value.now c.args.own.now c.find_places.new.own c.put_inside.new.self
    c.if-not-find_places.false c.new-places.ensures.items c.find_places.ensures.found c.deref.ensures.value c.find_places.ensures.text c.put_inside.ensures.put
