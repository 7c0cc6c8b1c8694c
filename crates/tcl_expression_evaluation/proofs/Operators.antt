-- `!` before a text that reads as a number.
use Rattle.std.proofs.Common.{◌≡◌, ◌∙◌, ap, refl, nat_eq, Bool, true, false, not, ℤ, FitsSigned, of_z, w64, Ok}
use Rattle.std.specs.Fmt.{signed_decimal}
use Rattle.tcl_text.specs.declared.integer.Integers.{Integers}
use Rattle.tcl_value.specs.Limits.{Bytes}
use Rattle.tcl_value.specs.Reading.{int_of}
use Rattle.tcl_expr.specs.declared.operator.UnaryOperator.{UnaryOperator}
use Rattle.tcl_expr.specs.declared.operator.UnaryOperator.TheVariants as unary
use Rattle.tcl_expression_evaluation.specs.Apply.{◌>>=◌, bit, answer, apply_unary}
use Rattle.tcl_expression_evaluation.proofs.Truths.{truth_of_number}

twice : (t : Bool) → answer (not (not t)) ≡ signed_decimal (bit t)
twice true = refl
twice false = refl

pub not_at : (o : UnaryOperator) (x : ℤ) (t : Bool) → o ≡ unary.Not → FitsSigned w64 x → nat_eq (of_z w64 x) 0 ≡ t → (style : Integers) (a : Bytes) → int_of style a ≡ Ok x → apply_unary style o a ≡ Ok (signed_decimal (bit t))
not_at o x t is fits e style a h =
    ap (λ p. apply_unary style p a) is ∙ ap (λ r. r >>= λ u. Ok (answer (not u))) (truth_of_number style a x fits h) ∙ ap (λ u. Ok (answer (not (not u)))) e ∙ ap Ok (twice t)
