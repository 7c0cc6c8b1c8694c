use Rattle.std.proofs.Common.{rules, ◌∙◌, sym, FitsSigned, w64}
use Rattle.tcl_expression_evaluation.proofs.Truths.{truth_of_number}
use Rattle.tcl_expression_evaluation.proofs.apply.truth_of.Goals as goal

pub returns-in-Ok-clause-truth : goal.returns-in-Ok-clause-truth
returns-in-Ok-clause-truth c =
    let fits : FitsSigned w64 c.in-Ok.number = search rules in
    truth_of_number c.args.style c.args.value.now c.in-Ok.number fits (sym c.as_int.ensures.read ∙ c.in-Ok.is)
