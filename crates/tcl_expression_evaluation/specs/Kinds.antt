-- What the operators between two operands do.
use Rattle.tcl_expr.specs.declared.operator.BinaryOperator.{BinaryOperator}
use Rattle.tcl_expr.specs.declared.operator.BinaryOperator.TheVariants as operator
use Rattle.tcl_expression_evaluation.specs.declared.kind.Kind.{Kind}
use Rattle.tcl_expression_evaluation.specs.declared.kind.Kind.TheVariants.{Arithmetic, Comparison}
use Rattle.tcl_expression_evaluation.specs.declared.kind.Kind.TheVariants.{SameText}
use Rattle.tcl_expression_evaluation.specs.declared.kind.Kind.TheVariants.{OtherText, Within}
use Rattle.tcl_expression_evaluation.specs.declared.kind.Kind.TheVariants.{Without, And, Or}
use Rattle.tcl_expression_evaluation.specs.declared.kind.Arithmetic.TheVariants.{Power, Multiply}
use Rattle.tcl_expression_evaluation.specs.declared.kind.Arithmetic.TheVariants.{Divide}
use Rattle.tcl_expression_evaluation.specs.declared.kind.Arithmetic.TheVariants.{Remainder, Add}
use Rattle.tcl_expression_evaluation.specs.declared.kind.Arithmetic.TheVariants.{Subtract}
use Rattle.tcl_expression_evaluation.specs.declared.kind.Arithmetic.TheVariants.{ShiftLeft}
use Rattle.tcl_expression_evaluation.specs.declared.kind.Arithmetic.TheVariants.{ShiftRight, BitAnd}
use Rattle.tcl_expression_evaluation.specs.declared.kind.Arithmetic.TheVariants.{BitXor, BitOr}
use Rattle.tcl_expression_evaluation.specs.declared.kind.Comparison.TheVariants.{Less, Greater}
use Rattle.tcl_expression_evaluation.specs.declared.kind.Comparison.TheVariants.{AtMost, AtLeast}
use Rattle.tcl_expression_evaluation.specs.declared.kind.Comparison.TheVariants.{Equal, Unequal}

abbrev pub kind_of : BinaryOperator → Kind
kind_of operator.Power = Arithmetic Power
kind_of operator.Multiply = Arithmetic Multiply
kind_of operator.Divide = Arithmetic Divide
kind_of operator.Remainder = Arithmetic Remainder
kind_of operator.Add = Arithmetic Add
kind_of operator.Subtract = Arithmetic Subtract
kind_of operator.ShiftLeft = Arithmetic ShiftLeft
kind_of operator.ShiftRight = Arithmetic ShiftRight
kind_of operator.Less = Comparison Less
kind_of operator.Greater = Comparison Greater
kind_of operator.AtMost = Comparison AtMost
kind_of operator.AtLeast = Comparison AtLeast
kind_of operator.Equal = Comparison Equal
kind_of operator.Unequal = Comparison Unequal
kind_of operator.SameText = SameText
kind_of operator.OtherText = OtherText
kind_of operator.Within = Within
kind_of operator.Without = Without
kind_of operator.BitAnd = Arithmetic BitAnd
kind_of operator.BitXor = Arithmetic BitXor
kind_of operator.BitOr = Arithmetic BitOr
kind_of operator.And = And
kind_of operator.Or = Or
