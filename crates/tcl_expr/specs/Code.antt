-- The tree of an expression in the order in which it is computed: operands before their operator.
-- What stands before the second operand of `&&` or `||`, and before the second and the third of a
-- choice, marks where a part may be left out.
use Rattle.std.specs.Prelude.{ℕ, suc, List, [], ◌∷◌, ◌++◌}
use Rattle.tcl_expr.specs.declared.operator.BinaryOperator.{BinaryOperator}
use Rattle.tcl_expr.specs.declared.operator.BinaryOperator.TheVariants as operator
use Rattle.tcl_expr.specs.declared.operator.Function.{Function}
use Rattle.tcl_expr.specs.declared.operator.Function.TheVariants.{Absolute}
use Rattle.tcl_expr.specs.Trees.{Tree, leaf, unary, binary, choice, first, also}
use Rattle.tcl_expr.specs.declared.tree.Node.{Node}
use Rattle.tcl_expr.specs.declared.tree.Node.TheVariants as node

-- the mark between the operands
abbrev pub mark : BinaryOperator → List Node
mark operator.And = node.Needed operator.And ∷ []
mark operator.Or = node.Needed operator.Or ∷ []
mark o = []

-- the function of a call, and how many arguments it has; what is no call is as the one argument of
-- one
abbrev pub function_of : Tree → Function
function_of (first f a) = f
function_of (also call a) = function_of call
function_of t = Absolute

abbrev pub count_of : Tree → ℕ
count_of (also call a) = suc (count_of call)
count_of t = 1

-- the last step
abbrev pub last_of : Tree → Node
last_of (leaf x) = node.Operand x
last_of (unary o a) = node.Unary o
last_of (binary o a b) = node.Binary o
last_of (choice c a b) = node.Choice
last_of (first f a) = node.Call f 1
last_of (also call a) = node.Call (function_of call) (suc (count_of call))

-- the steps before it, which are those of the operands and the marks between them
unfoldable pub before : Tree → List Node
before (leaf x) = []
before (unary o a) = before a ++ last_of a ∷ []
before (binary o a b) = ((before a ++ last_of a ∷ []) ++ mark o) ++ (before b ++ last_of b ∷ [])
before (choice c a b) = ((((before c ++ last_of c ∷ []) ++ node.Question ∷ []) ++ (before
    a ++ last_of a ∷ [])) ++ node.Colon ∷ []) ++ (before b ++ last_of b ∷ [])
before (first f a) = before a ++ last_of a ∷ []
before (also call a) = before call ++ (before a ++ last_of a ∷ [])

abbrev pub code_of : Tree → List Node
code_of t = before t ++ last_of t ∷ []
