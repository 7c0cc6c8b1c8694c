-- What an expression of an operator and of two operands comes to.
use Rattle.std.proofs.Common.{◌≡◌, ℤ, FitsSigned, w64, Result, Ok, sym, ap, subst}
use Rattle.std.specs.Fmt.{signed_decimal}
use Rattle.tcl_core.specs.Endings.{ok}
use Rattle.tcl_core.specs.Endings.Reply.{Completed}
use Rattle.tcl_core.specs.Paths.{Text}
use Rattle.tcl_core.specs.Programs.Prog.{done}
use Rattle.tcl_expr.specs.declared.operator.BinaryOperator.{BinaryOperator}
use Rattle.tcl_expression_evaluation.specs.Apply.{Outcome, apply_binary}
use Rattle.tcl_expression_evaluation.specs.Computations.{settled}
use Rattle.tcl_expression_evaluation.specs.Messages.{message_of}
use Rattle.tcl_language.specs.Instructions.{or_fails}
use Rattle.tcl_text.specs.declared.integer.IntegerFault.{IntegerFault}
use Rattle.tcl_text.specs.declared.integer.Integers.{Integers}
use Rattle.tcl_value.proofs.Laws.{int_of-number}
use Rattle.tcl_calls.specs.Expressions.{settles, settles_two}
use Rattle.tcl_calls.specs.Words.{EndsBy}

-- a number is itself in decimal
pub number_two : (style : Integers) (o : BinaryOperator) (a b : Text) (n : ℤ) (v : Text) → FitsSigned w64 n → apply_binary style o a b ≡ Ok (signed_decimal n) → v ≡ signed_decimal n → EndsBy (settles_two style o a b) (Completed (ok v))
number_two style o a b n v fits made is =
    subst (λ (r : Outcome). EndsBy (or_fails message_of r (settles style)) (Completed (ok v))) (sym made)
    (subst (λ (r : Result ℤ IntegerFault). EndsBy (or_fails message_of (settled (signed_decimal n) r) (λ result. done (ok result))) (Completed (ok v))) (sym (int_of-number style n fits)) (ap (λ (t : Text). Completed (ok t)) is))
