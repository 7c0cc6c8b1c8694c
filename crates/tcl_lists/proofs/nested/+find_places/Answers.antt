use Rattle.std.proofs.Common.{◌∷◌, ◌-◌, ◌++◌, [], take, drop, length}
use Rattle.tcl_lists.proofs.Placed.{first_and_rest}
use Rattle.tcl_lists.proofs.NestedPlaces.{leads_true, pushed}
use Rattle.tcl_lists.proofs.nested.+find_places.Goals as goal

pub returns-clause-found : goal.returns-clause-found
returns-clause-found t c =
    let item = c.index-item.result in
    let rest = take (length c.args.path.now - 1) (drop 1 c.args.path.now) in
    leads_true c.find_places.result c.args.style c.args.path.now item rest c.in-Ok.place c.args.own.now c.in-Ok.inner c.args.places.now.items c.push.new.self.items c.find_places.new.places.items
    (first_and_rest c.args.path.now item c.in-len1-up.len_at_least c.index-item.is) c.in-Ok.ensures.found
    (pushed c.push.result c.is_err.result c.push.new.self.items (c.args.places.now.items ++ c.in-Ok.place ∷ []) c.args.places.now.items c.is_err.ensures.value c.if-is_err.false c.push.ensures.items)
    c.find_places.ensures.found
