use Rattle.std.proofs.Common.{◌∙◌, ap, sym, subst}
use Rattle.tcl_value.specs.Texts.{AreElements, weight_from}
use Rattle.tcl_value.proofs.Parts.{AreElements-part, texts-part}
use Rattle.tcl_value.proofs.items.Items.part_weight.Goals as goal

pub weigh_from-requires : goal.weigh_from-requires
weigh_from-requires c = AreElements-part _ c.args.from _ (subst AreElements (sym c.deref.ensures.value) c.self.invariant.elements)

pub returns-then-to-from-clause-weight : goal.returns-then-to-from-clause-weight
returns-then-to-from-clause-weight c = c.weigh_from.ensures.weight ∙ ap (weight_from c.args.first) (texts-part c.self.inside.elements.items c.deref.result.now c.args.self.now c.args.from c.args.to c.deref.ensures.value c.self.view_is c.requires.order)
