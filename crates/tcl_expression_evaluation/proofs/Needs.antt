-- Whether the second operand is needed.
use Rattle.std.proofs.Common.{◌≡◌, ◌∙◌, ap, true, false, Err}
use Rattle.tcl_text.specs.declared.integer.Integers.{Integers}
use Rattle.tcl_value.specs.Limits.{Bytes}
use Rattle.tcl_expr.specs.declared.operator.BinaryOperator.{BinaryOperator}
use Rattle.tcl_expr.specs.declared.operator.BinaryOperator.TheVariants as operator
use Rattle.tcl_expression_evaluation.specs.declared.fault.ApplyError.{ApplyError}
use Rattle.tcl_expression_evaluation.specs.declared.fault.ApplyError.TheVariants as error
use Rattle.tcl_expression_evaluation.specs.Apply.{Refuses, truth, answer}
use Rattle.tcl_expression_evaluation.specs.Computations.{needing, decided}
use Rattle.tcl_expression_evaluation.specs.Steps.{Answers}

pub and_refused : (style : Integers) (o : BinaryOperator) (x : Bytes) (e : ApplyError) → o ≡ operator.And → Refuses e (truth style x) → Answers (Err e) style o x
and_refused style o x error.Memory is h = tt
and_refused style o x (error.Fault f) is h = λ second k. ap (λ p. needing style p x second k) is ∙ ap (λ r. decided r second (k (answer false))) h

pub or_refused : (style : Integers) (o : BinaryOperator) (x : Bytes) (e : ApplyError) → o ≡ operator.Or → Refuses e (truth style x) → Answers (Err e) style o x
or_refused style o x error.Memory is h = tt
or_refused style o x (error.Fault f) is h = λ second k. ap (λ p. needing style p x second k) is ∙ ap (λ r. decided r (k (answer true)) second) h
