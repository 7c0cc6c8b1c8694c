use Rattle.std.proofs.Common.{rules, sym, ◌∙◌, FitsSigned, w64}
use Rattle.tcl_arithmetic.proofs.DigitLaws.{same_number}
use Rattle.tcl_arithmetic.proofs.Divisions.{plain}
use Rattle.tcl_expression_evaluation.specs.WholeNumbers.{complement_of}
use Rattle.tcl_expression_evaluation.proofs.Digitwise.{digitwise}
use Rattle.tcl_expression_evaluation.proofs.apply.inverted.Goals as goal

pub returns : goal.returns
returns c =
    let digits = rw (plain c.args.number c.ranges.number) at c.complement.ensures in
    let fits : FitsSigned w64 c.complement.result = search rules in
    rw (plain c.complement.result fits) (same_number c.complement.result (complement_of c.args.number) (λ i. digits i ∙ sym (digitwise c.args.number c.args.number i).complement))
