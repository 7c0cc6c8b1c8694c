-- What an expression computes: a program that asks for the values of its parts, each when it is
-- needed. Operands come from the left; `&&`, logical or and a choice compute only what they need.
use Rattle.std.specs.Prelude.{Bool, true, false, not, cond, List, [], ◌∷◌, ◌++◌, ℤ, Result, Ok, Err}
use Rattle.std.specs.Fmt.{signed_decimal}
use Rattle.tcl_text.specs.declared.integer.Integers.{Integers}
use Rattle.tcl_text.specs.declared.integer.IntegerFault.{IntegerFault}
use Rattle.tcl_text.specs.declared.integer.IntegerFault.TheVariants as integer_fault
use Rattle.tcl_parser.specs.Words.{WordRead}
use Rattle.tcl_value.specs.Limits.{Bytes}
use Rattle.tcl_value.specs.Reading.{int_of}
use Rattle.tcl_expr.specs.declared.operator.BinaryOperator.{BinaryOperator}
use Rattle.tcl_expr.specs.declared.operator.BinaryOperator.TheVariants as operator
use Rattle.tcl_expr.specs.declared.operator.Function.{Function}
use Rattle.tcl_expr.specs.declared.token.Leaf.{Leaf}
use Rattle.tcl_expr.specs.declared.token.Leaf.TheVariants.{Literal, Substituted}
use Rattle.tcl_expr.specs.Trees.{Tree, leaf, unary, binary, choice, first, also}
use Rattle.tcl_expr.specs.Grammar.{takes_one}
use Rattle.tcl_expression_evaluation.specs.declared.fault.OperatorFault.{OperatorFault}
use Rattle.tcl_expression_evaluation.specs.declared.fault.OperatorFault.TheVariants as fault
use Rattle.tcl_expression_evaluation.specs.declared.fault.Operator.TheVariants.{Function as Called}
use Rattle.tcl_expression_evaluation.specs.Apply.{Outcome, truth, answer, apply_unary, apply_binary}
use Rattle.tcl_expression_evaluation.specs.Apply.{apply_func}
use Rattle.tcl_expr.specs.Code.{function_of}

-- A value; a refusal; or a part to be substituted, and what is computed with its value. Who
-- evaluates substitutes: where that ends otherwise than in a value, the evaluation ends so.
pub data Computation : Type 0 where
  value : Bytes → Computation
  refused : OperatorFault → Computation
  substitute : WordRead → (Bytes → Computation) → Computation

-- goes on with a result
abbrev pub and_then : Outcome → (Bytes → Computation) → Computation
and_then (Ok v) k = k v
and_then (Err f) k = refused f

-- goes one way or the other
abbrev pub decided : Result Bool OperatorFault → Computation → Computation → Computation
decided (Ok true) c d = c
decided (Ok false) c d = d
decided (Err f) c d = refused f

-- an operand
abbrev pub operand : Leaf → (Bytes → Computation) → Computation
operand (Literal v) k = k v
operand (Substituted w) k = substitute w k

-- Behind the first operand: `&&` needs the second where the first is true, logical or where it is
-- false, and every other operator always.
abbrev pub needing : Integers → BinaryOperator → Bytes → Computation → (Bytes → Computation) →
    Computation
needing style operator.And x second k = decided (truth style x) second (k (answer false))
needing style operator.Or x second k = decided (truth style x) (k (answer true)) second
needing style o x second k = second

-- A function of its arguments. No text spells a call of other than one argument where the function
-- takes one alone, or of none.
abbrev pub takes : Function → List Bytes → Bool
takes f [] = false
takes f (a ∷ []) = true
takes f (a ∷ b ∷ more) = not (takes_one f)

abbrev pub call : Integers → Function → List Bytes → Outcome
call style f arguments = cond (takes f arguments) (apply_func style f arguments)
    (Err (fault.NotNumeric (Called f)))

-- what a tree computes, and then what comes of its value
unfoldable mutual
  pub computes : Integers → Tree → (Bytes → Computation) → Computation
  computes style (leaf x) k = operand x k
  computes style (unary o a) k = computes style a (λ x. and_then (apply_unary style o x) k)
  computes style (binary o a b) k = computes style a
      (λ x. needing style o x (computes style b (λ y. and_then (apply_binary style o x y) k)) k)
  computes style (choice c a b) k = computes style c
      (λ x. decided (truth style x) (computes style a k) (computes style b k))
  computes style (first f a) k = computes style a (λ x. and_then (call style f (x ∷ [])) k)
  computes style (also c a) k = arguments style c
      (λ xs. computes style a (λ x. and_then (call style (function_of c) (xs ++ x ∷ [])) k))

  -- the arguments of a call, and then what comes of them
  pub arguments : Integers → Tree → (List Bytes → Computation) → Computation
  arguments style (first f a) k = computes style a (λ x. k (x ∷ []))
  arguments style (also c a) k = arguments style c (λ xs. computes style a (λ x. k (xs ++ x ∷ [])))
  arguments style t k = k []

-- An expression's value: an integer text is written in decimal, and one out of range is refused.
abbrev pub settled : Bytes → Result ℤ IntegerFault → Outcome
settled v (Ok n) = Ok (signed_decimal n)
settled v (Err integer_fault.NotInteger) = Ok v
settled v (Err integer_fault.TooLarge) = Err fault.TooLarge

abbrev pub final : Integers → Bytes → Outcome
final style v = settled v (int_of style v)

-- what a whole expression computes
abbrev pub computation_of : Integers → Tree → Computation
computation_of style t = computes style t value
