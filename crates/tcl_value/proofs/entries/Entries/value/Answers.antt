use Rattle.std.proofs.Common.{arith, sym, subst, ◌<◌, length}
use Rattle.tcl_value.specs.Texts.{IsElement}
use Rattle.tcl_value.proofs.Weights.{AreElements-get}
use Rattle.tcl_value.proofs.Entered.{entry_many, value_at}
use Rattle.tcl_value.proofs.entries.Entries.value.Goals as goal

pub index-requires : goal.index-requires
index-requires c = omega (arith, entry_many c.self.inside.keys.keys c.self.inside.values.items c.args.self.now c.self.invariant.same c.self.view_is, c.self.inside.values.ok.0, c.requires)

pub returns-clause-text : goal.returns-clause-text
returns-clause-text c = value_at c.self.inside.keys.keys c.self.inside.values.items c.args.self.now c.args.index c.index.result.now c.self.invariant.same c.self.view_is c.index.ensures

pub returns-clause-element : goal.returns-clause-element
returns-clause-element c =
    let here : c.args.index < length c.self.inside.values.items = omega (arith, entry_many c.self.inside.keys.keys c.self.inside.values.items c.args.self.now c.self.invariant.same c.self.view_is, c.requires) in
    subst IsElement (sym c.index.ensures) (AreElements-get c.self.inside.values.items c.args.index c.index.result.now c.self.invariant.elements here)
