-- `&&` and logical or, where the operands read as numbers.
use Rattle.std.proofs.Common.{◌≡◌, ◌∙◌, ap, nat_eq, Bool, true, false, not, ℤ, FitsSigned, of_z, w64, Ok, Some, None}
use Rattle.std.specs.Fmt.{signed_decimal}
use Rattle.tcl_text.specs.declared.integer.Integers.{Integers}
use Rattle.tcl_value.specs.Limits.{Bytes}
use Rattle.tcl_value.specs.Reading.{int_of}
use Rattle.tcl_expr.specs.declared.operator.BinaryOperator.{BinaryOperator}
use Rattle.tcl_expr.specs.declared.operator.BinaryOperator.TheVariants as operator
use Rattle.tcl_expression_evaluation.specs.Apply.{◌>>=◌, bit, answer, and_then, or_else, both, either}
use Rattle.tcl_expression_evaluation.specs.Computations.{needing, decided}
use Rattle.tcl_expression_evaluation.specs.AtHand.{IsDecided}
use Rattle.tcl_expression_evaluation.proofs.Truths.{truth_told}

pub and_told : (o : BinaryOperator) (x : ℤ) → o ≡ operator.And → FitsSigned w64 x → nat_eq (of_z w64 x) 0 ≡ true → IsDecided o x (Some (bit false))
and_told o x is fits none = λ style a reads second next.
    ap (λ p. needing style p a second next) is ∙ ap (λ r. decided r second (next (answer false))) (truth_told style a x true fits none reads)

pub and_needs : (o : BinaryOperator) (x : ℤ) → o ≡ operator.And → FitsSigned w64 x → nat_eq (of_z w64 x) 0 ≡ false → IsDecided o x None
and_needs o x is fits some = λ style a reads second next.
    ap (λ p. needing style p a second next) is ∙ ap (λ r. decided r second (next (answer false))) (truth_told style a x false fits some reads)

pub or_told : (o : BinaryOperator) (x : ℤ) → o ≡ operator.Or → FitsSigned w64 x → nat_eq (of_z w64 x) 0 ≡ false → IsDecided o x (Some (bit true))
or_told o x is fits some = λ style a reads second next.
    ap (λ p. needing style p a second next) is ∙ ap (λ r. decided r (next (answer true)) second) (truth_told style a x false fits some reads)

pub or_needs : (o : BinaryOperator) (x : ℤ) → o ≡ operator.Or → FitsSigned w64 x → nat_eq (of_z w64 x) 0 ≡ true → IsDecided o x None
or_needs o x is fits none = λ style a reads second next.
    ap (λ p. needing style p a second next) is ∙ ap (λ r. decided r (next (answer true)) second) (truth_told style a x true fits none reads)

-- ## Both operands

abbrev pub Both : ℤ → ℤ → ℤ → Type 0
Both x y n = (style : Integers) (a b : Bytes) → int_of style a ≡ Ok x → int_of style b ≡ Ok y → both style a b ≡ Ok (signed_decimal n)

abbrev pub Either : ℤ → ℤ → ℤ → Type 0
Either x y n = (style : Integers) (a b : Bytes) → int_of style a ≡ Ok x → int_of style b ≡ Ok y → either style a b ≡ Ok (signed_decimal n)

pub first_false : (x y : ℤ) → FitsSigned w64 x → nat_eq (of_z w64 x) 0 ≡ true → Both x y (bit false)
first_false x y fits none = λ style a b reads reads'. ap (λ r. r >>= λ u. and_then style u b) (truth_told style a x true fits none reads)

pub second_tells : (x y : ℤ) (none : Bool) → FitsSigned w64 x → FitsSigned w64 y → nat_eq (of_z w64 x) 0 ≡ false → nat_eq (of_z w64 y) 0 ≡ none → Both x y (bit (not none))
second_tells x y none fits fits' some is = λ style a b reads reads'.
    ap (λ r. r >>= λ u. and_then style u b) (truth_told style a x false fits some reads) ∙ ap (λ r. r >>= λ u. Ok (answer u)) (truth_told style b y none fits' is reads')

pub first_true : (x y : ℤ) → FitsSigned w64 x → nat_eq (of_z w64 x) 0 ≡ false → Either x y (bit true)
first_true x y fits some = λ style a b reads reads'. ap (λ r. r >>= λ u. or_else style u b) (truth_told style a x false fits some reads)

pub second_alone : (x y : ℤ) (none : Bool) → FitsSigned w64 x → FitsSigned w64 y → nat_eq (of_z w64 x) 0 ≡ true → nat_eq (of_z w64 y) 0 ≡ none → Either x y (bit (not none))
second_alone x y none fits fits' first is = λ style a b reads reads'.
    ap (λ r. r >>= λ u. or_else style u b) (truth_told style a x true fits first reads) ∙ ap (λ r. r >>= λ u. Ok (answer u)) (truth_told style b y none fits' is reads')
