-- What operators and functions make of values, which are texts: numbers are read from them, and
-- results written in decimal. Operands are looked at from the left, and only where they are needed.
use Rattle.std.specs.Prelude.{◌≡◌, ◌≤◌, Bool, true, false, not, cond, List, [], ◌∷◌, length, ℤ, pos}
use Rattle.std.specs.Prelude.{neg_ℤ, unsigned_abs, int_lt, Option, Some, None, Result, Ok, Err}
use Rattle.std.specs.List.{list_any}
use Rattle.std.specs.Fmt.{signed_decimal}
use Rattle.std.specs.Cmp.Lexicographic.{slice_cmp}
use Rattle.std.specs.Str.{bytes_eq}
use Rattle.std.specs.Ordering.{nat_cmp, int_cmp, is_lt, is_gt, is_eq}
use Rattle.std.specs.declared.cmp.Ordering.{Ordering}
use Rattle.tcl_text.specs.declared.integer.Integers.{Integers}
use Rattle.tcl_text.specs.declared.integer.IntegerFault.{IntegerFault}
use Rattle.tcl_text.specs.declared.integer.IntegerFault.TheVariants as integer_fault
use Rattle.tcl_text.specs.declared.list.ListFault.{ListFault}
use Rattle.tcl_text.specs.declared.list.ListError.{ListError}
use Rattle.tcl_text.specs.declared.list.ListError.TheVariants as list_error
use Rattle.tcl_text.specs.Booleans.{boolean_of}
use Rattle.tcl_arithmetic.specs.declared.ArithmeticFault.{ArithmeticFault}
use Rattle.tcl_value.specs.Limits.{Bytes}
use Rattle.tcl_value.specs.Reading.{int_of, list_of}
use Rattle.tcl_expr.specs.declared.operator.UnaryOperator.{UnaryOperator}
use Rattle.tcl_expr.specs.declared.operator.UnaryOperator.TheVariants as unary
use Rattle.tcl_expr.specs.declared.operator.BinaryOperator.{BinaryOperator}
use Rattle.tcl_expr.specs.declared.operator.Function.{Function}
use Rattle.tcl_expr.specs.declared.operator.Function.TheVariants as function
use Rattle.tcl_expression_evaluation.specs.declared.kind.Kind.{Kind}
use Rattle.tcl_expression_evaluation.specs.declared.kind.Kind.TheVariants as kind
use Rattle.tcl_expression_evaluation.specs.declared.kind.Arithmetic.{Arithmetic}
use Rattle.tcl_expression_evaluation.specs.declared.kind.Comparison.{Comparison}
use Rattle.tcl_expression_evaluation.specs.declared.kind.Comparison.TheVariants as comparison
use Rattle.tcl_expression_evaluation.specs.declared.fault.Operator.{Operator}
use Rattle.tcl_expression_evaluation.specs.declared.fault.Operator.TheVariants.{Unary, Binary}
use Rattle.tcl_expression_evaluation.specs.declared.fault.Operator.TheVariants.{Function as Called}
use Rattle.tcl_expression_evaluation.specs.declared.fault.OperatorFault.{OperatorFault}
use Rattle.tcl_expression_evaluation.specs.declared.fault.OperatorFault.TheVariants as fault
use Rattle.tcl_expression_evaluation.specs.declared.fault.ApplyError.{ApplyError}
use Rattle.tcl_expression_evaluation.specs.declared.fault.ApplyError.TheVariants.{Memory, Fault}
use Rattle.tcl_expression_evaluation.specs.Kinds.{kind_of}
use Rattle.tcl_expression_evaluation.specs.WholeNumbers.{complement_of, computed, checked, in_range}

-- a result, or why there is none
abbrev pub Outcome : Type 0
Outcome = Result Bytes OperatorFault

abbrev pub error_of_list : ListError → ApplyError
error_of_list list_error.Memory = Memory
error_of_list (list_error.Fault f) = Fault (fault.List f)

abbrev pub fault_of_arithmetic : ArithmeticFault → OperatorFault
fault_of_arithmetic f = fault.Arithmetic f

-- What a function returned, seen by a view, is what the definition gives, unless memory ran out.
abbrev pub Refuses : {Y : Type 0} → ApplyError → Result Y OperatorFault → Type 0
Refuses Memory given = Unit {0}
Refuses (Fault f) given = given ≡ Err f

abbrev pub Gives : {Y : Type 0} → Result Y ApplyError → Result Y OperatorFault → Type 0
Gives (Ok y) given = given ≡ Ok y
Gives (Err e) given = Refuses e given

infixl 10 ◌>>=◌
abbrev pub ◌>>=◌ : {A B : Type 0} → Result A OperatorFault → (A → Result B OperatorFault) →
    Result B OperatorFault
(Ok x) >>= f = f x
(Err e) >>= f = Err e

-- ## Operands

abbrev pub integer_read : Operator → Result ℤ IntegerFault → Result ℤ OperatorFault
integer_read o (Ok n) = Ok n
integer_read o (Err integer_fault.NotInteger) = Err (fault.NotNumeric o)
integer_read o (Err integer_fault.TooLarge) = Err fault.TooLarge

-- the whole number of an operand
abbrev pub integer : Integers → Operator → Bytes → Result ℤ OperatorFault
integer style o a = integer_read o (int_of style a)

abbrev pub truth_read : Bytes → Option Bool → Result Bool OperatorFault
truth_read a (Some b) = Ok b
truth_read a None = Err (fault.NotBoolean a)

-- the truth value of an operand
abbrev pub truth : Integers → Bytes → Result Bool OperatorFault
truth style a = truth_read a (boolean_of style a)

abbrev pub list_read : Result (List Bytes) ListFault → Result (List Bytes) OperatorFault
list_read (Ok l) = Ok l
list_read (Err f) = Err (fault.List f)

-- ## Results

abbrev pub arithmetic_read : Result ℤ ArithmeticFault → Result ℤ OperatorFault
arithmetic_read (Ok n) = Ok n
arithmetic_read (Err f) = Err (fault.Arithmetic f)

-- a number in decimal
abbrev pub number : Result ℤ ArithmeticFault → Outcome
number z = arithmetic_read z >>= λ n. Ok (signed_decimal n)

abbrev pub bit : Bool → ℤ
bit true = pos 1
bit false = pos 0

-- 1 or 0
abbrev pub answer : Bool → Bytes
answer b = signed_decimal (bit b)

-- ## Operators between two operands

abbrev pub two_integers : Integers → Operator → Bytes → Bytes → Result (ℤ × ℤ) OperatorFault
two_integers style o a b = integer style o a >>= λ x. integer style o b >>= λ y. Ok (x, y)

abbrev pub arithmetic : Integers → BinaryOperator → Arithmetic → Bytes → Bytes → Outcome
arithmetic style o k a b = two_integers style (Binary o) a b >>= λ p. number
    (in_range (computed k p.0 p.1))

-- Two integer texts compare as their numbers, and other texts by the numbers of their characters,
-- as the bytes of UTF-8 do. An integer text out of range compares with nothing.
abbrev pub order_read : Bytes → Bytes → Result ℤ IntegerFault → Result ℤ IntegerFault →
    Result Ordering OperatorFault
order_read a b (Err integer_fault.TooLarge) y = Err fault.TooLarge
order_read a b (Ok m) (Err integer_fault.TooLarge) = Err fault.TooLarge
order_read a b (Ok m) (Ok n) = Ok (int_cmp m n)
order_read a b (Ok m) (Err integer_fault.NotInteger) = Ok (slice_cmp nat_cmp a b)
order_read a b (Err integer_fault.NotInteger) (Err integer_fault.TooLarge) = Err fault.TooLarge
order_read a b (Err integer_fault.NotInteger) (Ok n) = Ok (slice_cmp nat_cmp a b)
order_read a b (Err integer_fault.NotInteger) (Err integer_fault.NotInteger) =
    Ok (slice_cmp nat_cmp a b)

abbrev pub order : Integers → Bytes → Bytes → Result Ordering OperatorFault
order style a b = order_read a b (int_of style a) (int_of style b)

abbrev pub holds : Comparison → Ordering → Bool
holds comparison.Less o = is_lt o
holds comparison.Greater o = is_gt o
holds comparison.AtMost o = not (is_gt o)
holds comparison.AtLeast o = not (is_lt o)
holds comparison.Equal o = is_eq o
holds comparison.Unequal o = not (is_eq o)

abbrev pub compared : Integers → Comparison → Bytes → Bytes → Outcome
compared style c a b = order style a b >>= λ o. Ok (answer (holds c o))

-- whether a text is among others
abbrev pub is_among : Bytes → List Bytes → Bool
is_among a l = list_any (bytes_eq a) l

abbrev pub among : Bytes → Bytes → Result Bool OperatorFault
among a b = list_read (list_of b) >>= λ l. Ok (is_among a l)

-- both are true: the second is looked at where the first is true
abbrev pub and_then : Integers → Bool → Bytes → Outcome
and_then style false b = Ok (answer false)
and_then style true b = truth style b >>= λ y. Ok (answer y)

-- either is true: the second is looked at where the first is false
abbrev pub or_else : Integers → Bool → Bytes → Outcome
or_else style true b = Ok (answer true)
or_else style false b = truth style b >>= λ y. Ok (answer y)

abbrev pub both : Integers → Bytes → Bytes → Outcome
both style a b = truth style a >>= λ x. and_then style x b

abbrev pub either : Integers → Bytes → Bytes → Outcome
either style a b = truth style a >>= λ x. or_else style x b

abbrev pub apply_kind : Integers → BinaryOperator → Kind → Bytes → Bytes → Outcome
apply_kind style o (kind.Arithmetic k) a b = arithmetic style o k a b
apply_kind style o (kind.Comparison c) a b = compared style c a b
apply_kind style o kind.SameText a b = Ok (answer (bytes_eq a b))
apply_kind style o kind.OtherText a b = Ok (answer (not (bytes_eq a b)))
apply_kind style o kind.Within a b = among a b >>= λ y. Ok (answer y)
apply_kind style o kind.Without a b = among a b >>= λ y. Ok (answer (not y))
apply_kind style o kind.And a b = both style a b
apply_kind style o kind.Or a b = either style a b

abbrev pub apply_binary : Integers → BinaryOperator → Bytes → Bytes → Outcome
apply_binary style o a b = apply_kind style o (kind_of o) a b

-- ## Operators before an operand

abbrev pub apply_unary : Integers → UnaryOperator → Bytes → Outcome
apply_unary style unary.Negate a = integer style (Unary unary.Negate) a >>= λ x. number
    (checked (neg_ℤ x))
apply_unary style unary.Plus a = integer style (Unary unary.Plus) a >>= λ x. Ok (signed_decimal x)
apply_unary style unary.Complement a = integer style (Unary unary.Complement) a >>= λ x.
    Ok (signed_decimal (complement_of x))
apply_unary style unary.Not a = truth style a >>= λ x. Ok (answer (not x))

-- ## Functions

-- the smaller, or the greater, of two numbers
abbrev pub smaller : ℤ → ℤ → ℤ
smaller m n = cond (int_lt n m) n m

abbrev pub greater : ℤ → ℤ → ℤ
greater m n = cond (int_lt m n) n m

abbrev pub chosen : Function → ℤ → ℤ → ℤ
chosen function.Absolute m n = m
chosen function.Least m n = smaller m n
chosen function.Greatest m n = greater m n

-- the number chosen among one and those of more operands
abbrev pub choose : Integers → Function → ℤ → List Bytes → Result ℤ OperatorFault
choose style f n [] = Ok n
choose style f n (a ∷ more) = integer style (Called f) a >>= λ m. choose style f (chosen f n m) more

abbrev pub called : Function → ℤ → Outcome
called function.Absolute n = number (checked (pos (unsigned_abs n)))
called function.Least n = Ok (signed_decimal n)
called function.Greatest n = Ok (signed_decimal n)

-- how many operands a function takes: `abs` one, and the others one or more
abbrev pub Takes : Function → List Bytes → Type 0
Takes function.Absolute operands = length operands ≡ 1
Takes f operands = 1 ≤ length operands

abbrev pub apply_func : Integers → Function → List Bytes → Outcome
apply_func style f [] = Err (fault.NotNumeric (Called f))
apply_func style f (a ∷ more) = integer style (Called f) a >>= λ n. choose style f n more >>= λ m.
    called f m
