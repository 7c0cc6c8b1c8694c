use Rattle.std.proofs.Common.{arith, ◌∙◌, ap, sym, subst}
use Rattle.tcl_value.specs.Texts.{element_text, texts, IsElement}
use Rattle.tcl_value.proofs.Weights.{AreElements-get, texts-get, length-texts, size}
use Rattle.tcl_value.proofs.Extended.{take_weight_from}
use Rattle.tcl_value.proofs.items.weigh_from.Goals as goal

pub written_len-requires : goal.written_len-requires
written_len-requires c = subst IsElement (sym c.index-elements-index.is) (AreElements-get c.args.elements.now c.elements.index c.index-elements-index.result c.requires (omega arith))

pub elements-preserved : goal.elements-preserved
elements-preserved c = record {
  weighs = take_weight_from c.args.first (texts c.args.elements.now) c.elements.index (element_text c.index-elements-index.result) c.elements.weight c.written_len.result (omega (arith, length-texts c.args.elements.now)) (ap element_text c.index-elements-index.is ∙ texts-get c.args.elements.now c.elements.index c.index-elements-index.result) c.elements.invariant.weighs (c.written_len.ensures.len ∙ ap (λ b. size b (element_text c.index-elements-index.result)) c.leads.ensures);
  few = omega arith;
}
