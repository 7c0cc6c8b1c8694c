use Rattle.std.proofs.Common.{◌<◌, length, arith, ap, sym, subst}
use Rattle.tcl_value.specs.Texts.{IsElement}
use Rattle.tcl_value.proofs.Weights.{AreElements-get, length-texts}
use Rattle.tcl_value.proofs.items.Items.get.Goals as goal

pub returns-clause-element : goal.returns-clause-element
returns-clause-element c =
    let same = ap length c.self.view_is in
    let here : c.args.index < length c.self.inside.elements.items = omega (arith, length-texts c.self.inside.elements.items, c.requires) in
    subst IsElement (sym c.index.ensures) (AreElements-get c.self.inside.elements.items c.args.index c.index.result.now c.self.invariant.elements here)
