use Rattle.std.proofs.Common.{◌∙◌, ap, sym}
use Rattle.tcl_value.specs.Texts.{weight}
use Rattle.tcl_value.proofs.Weights.{same_all}
use Rattle.tcl_value.proofs.items.ItemsClone.clone.Goals as goal

pub invariant_of-result : goal.invariant_of-result
invariant_of-result c =
    let same = same_all _ _ c.in_ok-elements.ensures.cases.0 in
    record { elements = same.1 c.self.invariant.elements; weighs = c.self.invariant.weighs ∙ ap weight (sym same.0) }

pub returns : goal.returns
returns c =
    let same = same_all _ _ c.in_ok-elements.ensures.cases.0 in
    record { cases = same.0 ∙ c.self.view_is }
