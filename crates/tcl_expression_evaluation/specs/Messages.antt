-- How operators are written, and what is told of values that have no result.
use Rattle.std.specs.Prelude.{ℕ, List, ◌++◌, codes}
use Rattle.tcl_expr.specs.declared.operator.UnaryOperator.{UnaryOperator}
use Rattle.tcl_expr.specs.declared.operator.UnaryOperator.TheVariants as unary
use Rattle.tcl_expr.specs.declared.operator.BinaryOperator.{BinaryOperator}
use Rattle.tcl_expr.specs.declared.operator.BinaryOperator.TheVariants as operator
use Rattle.tcl_expr.specs.declared.operator.Function.{Function}
use Rattle.tcl_expr.specs.declared.operator.Function.TheVariants as function
use Rattle.tcl_arithmetic.specs.declared.ArithmeticFault.{ArithmeticFault}
use Rattle.tcl_arithmetic.specs.declared.ArithmeticFault.TheVariants as fault
use Rattle.tcl_text.specs.Writing.{fault_message}
use Rattle.tcl_text.specs.Messages as messages
use Rattle.tcl_expression_evaluation.specs.declared.fault.Operator.{Operator}
use Rattle.tcl_expression_evaluation.specs.declared.fault.Operator.TheVariants as operators
use Rattle.tcl_expression_evaluation.specs.declared.fault.OperatorFault.{OperatorFault}
use Rattle.tcl_expression_evaluation.specs.declared.fault.OperatorFault.TheVariants.{TooLarge}
use Rattle.tcl_expression_evaluation.specs.declared.fault.OperatorFault.TheVariants.{NotBoolean}
use Rattle.tcl_expression_evaluation.specs.declared.fault.OperatorFault.TheVariants.{NotNumeric}
use Rattle.tcl_expression_evaluation.specs.declared.fault.OperatorFault.TheVariants.{Arithmetic}
use Rattle.tcl_expression_evaluation.specs.declared.fault.OperatorFault.TheVariants.{List as NoList}

abbrev pub unary_symbol : UnaryOperator → List ℕ
unary_symbol unary.Negate = codes "-"
unary_symbol unary.Plus = codes "+"
unary_symbol unary.Complement = codes "~"
unary_symbol unary.Not = codes "!"

abbrev pub binary_symbol : BinaryOperator → List ℕ
binary_symbol operator.Power = codes "**"
binary_symbol operator.Multiply = codes "*"
binary_symbol operator.Divide = codes "/"
binary_symbol operator.Remainder = codes "%"
binary_symbol operator.Add = codes "+"
binary_symbol operator.Subtract = codes "-"
binary_symbol operator.ShiftLeft = codes "<<"
binary_symbol operator.ShiftRight = codes ">>"
binary_symbol operator.Less = codes "<"
binary_symbol operator.Greater = codes ">"
binary_symbol operator.AtMost = codes "<="
binary_symbol operator.AtLeast = codes ">="
binary_symbol operator.Equal = codes "=="
binary_symbol operator.Unequal = codes "!="
binary_symbol operator.SameText = codes "eq"
binary_symbol operator.OtherText = codes "ne"
binary_symbol operator.Within = codes "in"
binary_symbol operator.Without = codes "ni"
binary_symbol operator.BitAnd = codes "&"
binary_symbol operator.BitXor = codes "^"
binary_symbol operator.BitOr = codes "|"
binary_symbol operator.And = codes "&&"
binary_symbol operator.Or = codes "||"

abbrev pub function_symbol : Function → List ℕ
function_symbol function.Absolute = codes "abs"
function_symbol function.Least = codes "min"
function_symbol function.Greatest = codes "max"

abbrev pub symbol_of : Operator → List ℕ
symbol_of (operators.Unary o) = unary_symbol o
symbol_of (operators.Binary o) = binary_symbol o
symbol_of (operators.Function f) = function_symbol f

abbrev pub arithmetic_message : ArithmeticFault → List ℕ
arithmetic_message fault.Overflow = messages.overflow
arithmetic_message fault.DivideByZero = codes "divide by zero"
arithmetic_message fault.NegativeShift = codes "negative shift argument"
arithmetic_message fault.NegativeExponent = codes "negative exponent"

abbrev pub message_of : OperatorFault → List ℕ
message_of TooLarge = codes "integer value too large to represent"
message_of (NotBoolean text) = codes "expected boolean value but got \"" ++ text ++ codes "\""
message_of (NotNumeric o) = codes "can't use non-numeric string as operand of \"" ++ symbol_of
    o ++ codes "\""
message_of (Arithmetic f) = arithmetic_message f
message_of (NoList f) = fault_message f
