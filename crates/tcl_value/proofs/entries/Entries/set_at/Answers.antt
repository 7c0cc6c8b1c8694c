use Rattle.std.proofs.Common.{arith, ap}
use Rattle.tcl_value.specs.Texts.{weight, flat}
use Rattle.tcl_value.proofs.Entered.{entry_many, entries_set, IsEntries-set}
use Rattle.tcl_value.proofs.entries.Entries.set_at.Goals as goal

pub index_mut-requires : goal.index_mut-requires
index_mut-requires c = omega (arith, entry_many c.self.inside.keys.keys c.self.inside.values.items c.args.self.now c.self.invariant.same c.self.view_is, c.self.inside.values.ok.0, c.requires.in_bounds)

pub invariant_of-self : goal.invariant_of-self
invariant_of-self c = IsEntries-set c.self.inside.keys.keys c.self.inside.values.items c.args.self.now c.args.index c.args.value c.self.inside.weight c.weight_with_at-weight.result c.self.invariant c.self.view_is c.requires.element c.weight_with_at-weight.ensures

pub returns-clause-set : goal.returns-clause-set
returns-clause-set c = entries_set c.self.inside.keys.keys c.self.inside.values.items c.args.self.now c.args.index c.args.value c.self.invariant.same c.self.view_is

pub returns-clause-light : goal.returns-clause-light
returns-clause-light c =
    let now = ap (λ z. weight (flat z)) (returns-clause-set c) in
    omega (arith, c.weight_with_at-weight.ensures)
