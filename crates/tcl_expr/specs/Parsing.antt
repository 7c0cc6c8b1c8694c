-- What the parser keeps of what stands open.
use Rattle.std.specs.Prelude.{◌≡◌, ℕ, suc, Bool, true, false, not, cond, nat_lt, List, [], ◌∷◌}
use Rattle.std.specs.Prelude.{◌++◌, Option, Some, None, Result, Ok, Err}
use Rattle.tcl_expr.specs.declared.operator.UnaryOperator.TheVariants as unary
use Rattle.tcl_expr.specs.declared.operator.Function.{Function}
use Rattle.tcl_expr.specs.declared.token.Leaf.{Leaf}
use Rattle.tcl_expr.specs.Trees.{Tree, leaf}
use Rattle.tcl_expr.specs.Grammar.{takes_one}
use Rattle.tcl_expr.specs.Reading.{Open, prefixed, infixed, parenthesis, calling, calling_on}
use Rattle.tcl_expr.specs.Reading.{deciding, otherwise, depth, weight, takes, settle, State}
use Rattle.tcl_expr.specs.Reading.{wanting, naming, having, Step}
use Rattle.tcl_expr.specs.declared.fault.ExprFault.{ExprFault}
use Rattle.tcl_expr.specs.declared.fault.ExprError.{ExprError}
use Rattle.tcl_expr.specs.declared.fault.ExprError.TheVariants as error
use Rattle.tcl_expr.specs.declared.tree.ExprTree.{ExprTree}
use Rattle.tcl_expr.specs.declared.tree.Node.{Node}
use Rattle.tcl_expr.specs.declared.tree.Node.TheVariants as node
use Rattle.tcl_expr.specs.declared.parser.Pending.{Pending}
use Rattle.tcl_expr.specs.declared.parser.Pending.TheVariants as pending
use Rattle.tcl_expr.specs.declared.parser.End.{End}
use Rattle.tcl_expr.specs.declared.parser.End.TheVariants as end
use Rattle.tcl_expr.specs.declared.parser.Mode.{Mode}
use Rattle.tcl_expr.specs.declared.parser.Mode.TheVariants as mode
use Rattle.tcl_expr.specs.Code.{mark, function_of, count_of, before, code_of}
use Rattle.tcl_text.specs.declared.integer.Integers.{Integers}
use Rattle.tcl_expr.specs.Expressions.{fault_of, IsExpr, HasFault}

abbrev pub pending_of : Open → Pending
pending_of (prefixed o) = pending.Prefixed o
pending_of (infixed o a) = pending.Infixed o
pending_of parenthesis = pending.Parenthesis
pending_of (calling f) = pending.Calling f
pending_of (calling_on call) = pending.CallingOn (function_of call) (suc (count_of call))
pending_of (deciding c) = pending.Deciding
pending_of (otherwise c a) = pending.Otherwise

-- what stands open, the outermost first
unfoldable pub stack_of : List Open → List Pending
stack_of [] = []
stack_of (o ∷ os) = stack_of os ++ pending_of o ∷ []

-- the steps that what stands open has so far
abbrev pub steps_of : Open → List Node
steps_of (prefixed o) = []
steps_of (infixed o a) = code_of a ++ mark o
steps_of parenthesis = []
steps_of (calling f) = []
steps_of (calling_on call) = before call
steps_of (deciding c) = code_of c ++ node.Question ∷ []
steps_of (otherwise c a) = ((code_of c ++ node.Question ∷ []) ++ code_of a) ++ node.Colon ∷ []

unfoldable pub steps_before : List Open → List Node
steps_before [] = []
steps_before (o ∷ os) = steps_before os ++ steps_of o

-- the parser's steps, what it keeps of what stands open and how deep that nests, behind which there
-- are more steps
pub record Holds (nodes : List Node) (open_now : List Pending) (deep : ℕ) (os : List Open)
    (more : List Node) : Type 0 where
  pub nodes_are : nodes ≡ steps_before os ++ more
  pub open_is : open_now ≡ stack_of os
  pub deep_is : deep ≡ depth os

-- The parser stands in a state. A function stands open from its name on.
abbrev pub Stands : List Node → List Pending → ℕ → Mode → State → Type 0
Stands nodes p d mode.Wanting (wanting os) = Holds nodes p d os []
Stands nodes p d mode.Naming (naming f os) = Holds nodes p d (calling f ∷ os) []
Stands nodes p d mode.Having (having os a) = Holds nodes p d os (code_of a)
Stands nodes p d m q = Prim.⊥

-- what a step of the parser comes to
abbrev pub Comes : List Node → List Pending → ℕ → Result Mode ExprError → Step → Type 0
Comes nodes p d (Ok m) (Ok q) = Stands nodes p d m q
Comes nodes p d (Err error.Memory) s = Unit {0}
Comes nodes p d (Err (error.Fault f)) (Err e) = f ≡ fault_of e
Comes nodes p d r s = Prim.⊥

-- the step that ends what stands open, where an operator of a level follows
abbrev pub closing : Pending → ℕ → Option Node
closing (pending.Prefixed o) n = Some (node.Unary o)
closing (pending.Infixed o) n = cond (takes o n) (Some (node.Binary o)) None
closing pending.Otherwise n = cond (nat_lt 15 n) (Some node.Choice) None
closing _ n = None

abbrev pub weight_of : Pending → ℕ
weight_of (pending.Infixed o) = 0
weight_of _ = 1

-- what stands open is settled one by one
abbrev pub Settles : Bool → ℕ → List Node → List Pending → ℕ → List Node → List Pending → ℕ → Type 0
Settles false n nodes p d nodes' p' d' =
    (nodes' ≡ nodes) × (p' ≡ p) × (d' ≡ d) ×
    ((os : List Open) (a : Tree) → Holds nodes p d os (code_of a) →
    settle n os a ≡ record { os = os; tree = a })
Settles true n nodes p d nodes' p' d' =
    (os : List Open) (a : Tree) → Holds nodes p d os (code_of a) → (os' : List Open) × (a' : Tree) ×
    Holds nodes' p' d' os' (code_of a') × (settle n os' a' ≡ settle n os a)

abbrev pub leaf_tree : Leaf → Tree
leaf_tree x = leaf x

abbrev pub is_deciding : Pending → Bool
is_deciding pending.Deciding = true
is_deciding _ = false

abbrev pub is_negation : Pending → Bool
is_negation (pending.Prefixed unary.Negate) = true
is_negation _ = false

-- how what stands open ends at a close parenthesis
abbrev pub end_of : Pending → End
end_of pending.Parenthesis = end.Group
end_of (pending.Calling f) = end.Step (node.Call f 1)
end_of (pending.CallingOn f n) = end.Step (node.Call f n)
end_of _ = end.Missing

-- the function, and the number of its arguments, where another argument may come
abbrev pub argument_end : Pending → Option (Function × ℕ)
argument_end (pending.Calling f) = cond {A = Option (Function × ℕ)} (not (takes_one f))
    (Some (f, 1)) None
argument_end (pending.CallingOn f n) = Some (f, n)
argument_end _ = None

-- what opens before an operand has no steps yet, and nests one deeper
pub record Opens (p : Pending) (o : Open) : Type 0 where
  pub is : p ≡ pending_of o
  pub no_steps : steps_of o ≡ []
  pub nests : (n : ℕ) → weight o n ≡ suc n

-- What is kept of a text is its tree in the order of computing it, and what is refused is its
-- fault.
abbrev pub Keeps : Result ExprTree ExprError → Result Tree ExprFault → Type 0
Keeps (Ok kept) (Ok t) = kept.nodes.items ≡ code_of t
Keeps (Ok kept) (Err f) = Prim.⊥
Keeps (Err error.Memory) read = Unit {0}
Keeps (Err (error.Fault f)) read = read ≡ Err f

-- What is kept of a text is the tree that the text is, and what is refused is the fault that the
-- text has.
abbrev pub IsRead : Integers → List ℕ → Result ExprTree ExprError → Type 0
IsRead style s (Ok kept) = (t : Tree) × IsExpr style s t × (kept.nodes.items ≡ code_of t)
IsRead style s (Err error.Memory) = Unit {0}
IsRead style s (Err (error.Fault f)) = HasFault style s f
