-- The trees of expressions.
use Rattle.tcl_expr.specs.declared.operator.UnaryOperator.{UnaryOperator}
use Rattle.tcl_expr.specs.declared.operator.BinaryOperator.{BinaryOperator}
use Rattle.tcl_expr.specs.declared.operator.Function.{Function}
use Rattle.tcl_expr.specs.declared.token.Leaf.{Leaf}

-- An expression: an operand, an operator with its operands, a choice between two, or a function
-- with its arguments, of which `first` is the first and `also` adds one more.
pub data Tree : Type 0 where
  leaf : (x : Leaf) → Tree
  unary : (o : UnaryOperator) (a : Tree) → Tree
  binary : (o : BinaryOperator) (a b : Tree) → Tree
  choice : (c a b : Tree) → Tree
  first : (f : Function) (a : Tree) → Tree
  also : (call a : Tree) → Tree
