-- Which trees the tokens of an expression spell: one rule for each level of operators.
use Rattle.std.specs.Prelude.{◌≡◌, ℕ, suc, Bool, true, false, ◌≤◌, List, [], ◌∷◌, ◌++◌, Option}
use Rattle.std.specs.Prelude.{Some, None}
use Rattle.tcl_expr.specs.declared.operator.UnaryOperator.{UnaryOperator}
use Rattle.tcl_expr.specs.declared.operator.UnaryOperator.TheVariants as unary_operator
use Rattle.tcl_expr.specs.declared.operator.BinaryOperator.{BinaryOperator}
use Rattle.tcl_expr.specs.declared.operator.BinaryOperator.TheVariants as infix_operator
use Rattle.tcl_expr.specs.declared.operator.Function.{Function}
use Rattle.tcl_expr.specs.declared.operator.Function.TheVariants as function
use Rattle.tcl_expr.specs.declared.token.Leaf.{Leaf}
use Rattle.tcl_expr.specs.declared.token.Leaf.TheVariants.{Literal}
use Rattle.tcl_expr.specs.declared.token.Token.{Token}
use Rattle.tcl_expr.specs.declared.token.Token.TheVariants as token
use Rattle.tcl_expr.specs.Trees.{Tree, leaf, unary, binary, choice, first, also}

-- the level of an operator between two operands: 2 binds tightest, and 1 is that of an operand with
-- the operators before it
abbrev pub level : BinaryOperator → ℕ
level infix_operator.Power = 2
level infix_operator.Multiply = 3
level infix_operator.Divide = 3
level infix_operator.Remainder = 3
level infix_operator.Add = 4
level infix_operator.Subtract = 4
level infix_operator.ShiftLeft = 5
level infix_operator.ShiftRight = 5
level infix_operator.Less = 6
level infix_operator.Greater = 6
level infix_operator.AtMost = 6
level infix_operator.AtLeast = 6
level infix_operator.Equal = 7
level infix_operator.Unequal = 7
level infix_operator.SameText = 8
level infix_operator.OtherText = 8
level infix_operator.Within = 9
level infix_operator.Without = 9
level infix_operator.BitAnd = 10
level infix_operator.BitXor = 11
level infix_operator.BitOr = 12
level infix_operator.And = 13
level infix_operator.Or = 14

-- the level of a whole expression, at which choices stand
abbrev pub whole : ℕ
whole = 15

-- the operator that a token is before an operand, and between two
abbrev pub prefix_of : Token → Option UnaryOperator
prefix_of token.Plus = Some unary_operator.Plus
prefix_of token.Minus = Some unary_operator.Negate
prefix_of (token.Prefix o) = Some o
prefix_of _ = None

abbrev pub infix_of : Token → Option BinaryOperator
infix_of token.Plus = Some infix_operator.Add
infix_of token.Minus = Some infix_operator.Subtract
infix_of (token.Infix o) = Some o
infix_of _ = None

-- whether a function takes one argument alone, and whether a call may have one more
abbrev pub takes_one : Function → Bool
takes_one function.Absolute = true
takes_one _ = false

abbrev pub is_complete : Tree → Bool
is_complete (first f a) = takes_one f
is_complete _ = false

-- what is spelled: a tree of at most a level, or a function's name with arguments, of which the
-- last may be followed by more
pub data Kind : Type 0 where
  upto : ℕ → Kind
  arguments : Kind

-- The tokens `s` begin with the tree, and `rest` is what follows it. Parentheses, functions,
-- operators before an operand and the second and third operand of a choice stand in one another at
-- most `room` deep.
pub data Spells : Kind → ℕ → Tree → List Token → List Token → Type 0 where
  operand : (room : ℕ) (x : Leaf) (rest : List Token) →
      Spells (upto 1) room (leaf x) (token.Operand x ∷ rest) rest
  lowest : (room : ℕ) (t : Token) (x : List ℕ) (rest : List Token) →
      prefix_of t ≡ Some unary_operator.Negate →
      Spells (upto 1) (suc room) (leaf (Literal (45 ∷ x))) (t ∷ token.Lowest x ∷ rest) rest
  before : (room : ℕ) (t : Token) (o : UnaryOperator) (a : Tree) (s rest : List Token) →
      prefix_of t ≡ Some o →
      Spells (upto 1) room a s rest → Spells (upto 1) (suc room) (unary o a) (t ∷ s) rest
  parenthesized : (room : ℕ) (a : Tree) (s rest : List Token) →
      Spells (upto whole) room a s (token.Close ∷ rest) →
      Spells (upto 1) (suc room) a (token.Open ∷ s) rest
  called : (room : ℕ) (a : Tree) (s rest : List Token) →
      Spells arguments room a s (token.Close ∷ rest) → Spells (upto 1) (suc room) a s rest
  first_argument : (room : ℕ) (f : Function) (a : Tree) (s rest : List Token) →
      Spells (upto whole) room a s rest →
      Spells arguments room (first f a) (token.Function f ∷ token.Open ∷ s) rest
  -- `abs` has one argument
  next_argument : (room : ℕ) (call a : Tree) (s u rest : List Token) → is_complete call ≡ false →
      Spells arguments room call s (token.Comma ∷ u) → Spells (upto whole) room a u rest →
      Spells arguments room (also call a) s rest
  -- operators of one level group to the left
  left : (room n : ℕ) (t : Token) (o : BinaryOperator) (a b : Tree) (s u rest : List Token) →
      infix_of t ≡ Some o → level o ≡ suc n → 2 ≤ n →
      Spells (upto (suc n)) room a s (t ∷ u) → Spells (upto n) room b u rest →
      Spells (upto (suc n)) room (binary o a b) s rest
  -- but `**` groups to the right
  right : (room : ℕ) (a b : Tree) (s u rest : List Token) →
      Spells (upto 1) room a s (token.Infix infix_operator.Power ∷ u) →
      Spells (upto 2) room b u rest →
      Spells (upto 2) room (binary infix_operator.Power a b) s rest
  chosen : (room : ℕ) (c a b : Tree) (s u v rest : List Token) →
      Spells (upto 14) (suc room) c s (token.Question ∷ u) →
      Spells (upto whole) room a u (token.Colon ∷ v) → Spells (upto whole) room b v rest →
      Spells (upto whole) (suc room) (choice c a b) s rest
  -- what binds tighter stands for itself
  tighter : (room n : ℕ) (a : Tree) (s rest : List Token) → Spells (upto n) room a s rest →
      Spells (upto (suc n)) room a s rest

-- The tokens are those of the tree, wholly.
abbrev pub IsExpression : ℕ → Tree → List Token → Type 0
IsExpression room a s = Spells (upto whole) room a s []

-- The tokens begin an expression.
abbrev pub Begins : ℕ → List Token → Type 0
Begins room s = (more : List Token) × (a : Tree) × IsExpression room a (s ++ more)
