use Rattle.std.proofs.Common.{◌∙◌, ap, sym, subst}
use Rattle.tcl_value.specs.Texts.{AreElements, weight}
use Rattle.tcl_value.proofs.Weights.{same_all}
use Rattle.tcl_value.proofs.Parts.{AreElements-part, texts-part}
use Rattle.tcl_value.proofs.items.Items.part.Goals as goal

pub invariant_of-result : goal.invariant_of-result
invariant_of-result c =
    let same = same_all _ _ c.in_ok-elements.ensures.ok in
    let part = texts-part c.self.inside.elements.items c.deref.result.now c.args.self.now c.args.from c.args.to c.deref.ensures.value c.self.view_is c.requires.order in
    record {
      elements = same.1 (AreElements-part _ c.args.from _ (subst AreElements (sym c.deref.ensures.value) c.self.invariant.elements));
      weighs = c.part_weight-weight.ensures.weight ∙ ap weight (sym (same.0 ∙ part));
    }

pub returns : goal.returns
returns c =
    let same = same_all _ _ c.in_ok-elements.ensures.ok in
    same.0 ∙ texts-part c.self.inside.elements.items c.deref.result.now c.args.self.now c.args.from c.args.to c.deref.ensures.value c.self.view_is c.requires.order
