use Rattle.std.proofs.Common.{arith, ◌∙◌, sym, ◌<◌, ◌^◌}
use Rattle.tcl_value.specs.Texts.{element_text}
use Rattle.tcl_value.proofs.Weights.{kept_few, pushed_weight, length-texts}
use Rattle.tcl_value.proofs.items.Items.weight_with.Goals as goal

few : (c : goal.After-written_len-more) → c.self.inside.weight < 2 ^ 90
few c = kept_few _ _ _ _ c.self.invariant.weighs c.self.invariant.elements c.self.inside.elements.ok.0 c.self.inside.elements.ok.1 c.self.inside.elements.small

pub overflow_add-result : goal.overflow_add-result
overflow_add-result c = omega (arith, few c)

pub overflow_add-result-2 : goal.overflow_add-result-2
overflow_add-result-2 c = omega (arith, few c)

pub returns : goal.returns
returns c = pushed_weight _ c.args.self.now (element_text c.args.element.now) c.self.inside.weight c.written_len-more.result _ c.is_empty.result c.self.invariant.weighs c.self.view_is c.is_empty.ensures (c.self.inside.elements.ok.0 ∙ sym (length-texts c.self.inside.elements.items)) c.written_len-more.ensures.len
