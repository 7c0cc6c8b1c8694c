-- What ties the steps of a kept expression to its tree.
use Rattle.std.specs.Prelude.{◌≡◌, ℕ, Bool, true, false, not, List, []}
use Rattle.tcl_text.specs.declared.integer.Integers.{Integers}
use Rattle.tcl_expr.specs.Trees.{Tree, leaf, unary, binary, choice, first, also}
use Rattle.tcl_expr.specs.Grammar.{takes_one}
use Rattle.tcl_expr.specs.Expressions.{IsExpr}
use Rattle.tcl_expr.specs.Code.{code_of}
use Rattle.tcl_expression_evaluation.specs.Computations.{computation_of}
use Rattle.tcl_expression_evaluation.specs.Steps.{from}

-- whether a tree is a call to which an argument can be added
abbrev pub takes_more : Tree → Bool
takes_more (first f a) = not (takes_one f)
takes_more (also call a) = true
takes_more t = false

-- arguments are added to calls that take more
unfoldable pub IsFormed : Tree → Type 0
IsFormed (leaf x) = Unit {0}
IsFormed (unary o a) = IsFormed a
IsFormed (binary o a b) = IsFormed a × IsFormed b
IsFormed (choice c a b) = IsFormed c × IsFormed a × IsFormed b
IsFormed (first f a) = IsFormed a
IsFormed (also call a) = (takes_more call ≡ true) × IsFormed call × IsFormed a

-- The steps of a text's tree, from the first on, compute what the tree computes.
abbrev pub StepsComputeTrees : Type 0
StepsComputeTrees = (style : Integers) (s : List ℕ) (t : Tree) → IsExpr style s t →
    from style (code_of t) 0 [] ≡ computation_of style t

-- Every tree of a text is so formed.
abbrev pub TreesAreFormed : Type 0
TreesAreFormed = (style : Integers) (s : List ℕ) (t : Tree) → IsExpr style s t → IsFormed t
