use Rattle.std.proofs.Common.{◌∙◌, ap, sym, arith, length}
use Rattle.tcl_value.specs.Writing.{write_element}
use Rattle.tcl_value.specs.Texts.{element_text}
use Rattle.tcl_value.proofs.Weights.{size_within}
use Rattle.tcl_value.proofs.element.Element.written_len.Goals as goal

pub returns-in-Text-clause-few : goal.returns-in-Text-clause-few
returns-in-Text-clause-few c =
    let same = c.written_len.ensures ∙ ap (λ x. length (write_element c.args.first x)) (c.as_str.ensures ∙ sym (ap element_text c.in-Text.is)) in
    omega (arith, size_within c.args.first c.args.self.now c.requires)

pub returns-in-Grown-clause-few : goal.returns-in-Grown-clause-few
returns-in-Grown-clause-few c =
    let same = c.written_len-in-Grown.ensures ∙ ap (λ x. length (write_element c.args.first x)) (c.deref.ensures ∙ sym (ap element_text c.in-Grown.is)) in
    omega (arith, size_within c.args.first c.args.self.now c.requires)
