-- Reading the tokens of an expression from the left: what stands open at a place, and what each
-- token makes of that.
use Rattle.std.specs.Prelude.{ℕ, suc, nat_lt, nat_le, Bool, true, false, cond, List, [], ◌∷◌}
use Rattle.std.specs.Prelude.{Option, Some, None, Result, Ok, Err}
use Rattle.tcl_expr.specs.declared.operator.UnaryOperator.{UnaryOperator}
use Rattle.tcl_expr.specs.declared.operator.UnaryOperator.TheVariants as unary_operator
use Rattle.tcl_expr.specs.declared.operator.BinaryOperator.{BinaryOperator}
use Rattle.tcl_expr.specs.declared.operator.BinaryOperator.TheVariants as infix_operator
use Rattle.tcl_expr.specs.declared.operator.Function.{Function}
use Rattle.tcl_expr.specs.declared.token.Leaf.TheVariants.{Literal}
use Rattle.tcl_expr.specs.declared.token.Token.{Token}
use Rattle.tcl_expr.specs.declared.token.Token.TheVariants as token
use Rattle.tcl_expr.specs.declared.grammar.Misfit.{Misfit}
use Rattle.tcl_expr.specs.declared.grammar.Misfit.TheVariants.{Syntax, TooDeep, TooLarge}
use Rattle.tcl_expr.specs.Trees.{Tree, leaf, unary, binary, choice, first, also}
use Rattle.tcl_expr.specs.Grammar.{level, prefix_of, infix_of, takes_one}

-- What stands open: an operator before its operand; an operator behind its first operand; a
-- parenthesis; a function behind its name, and behind an argument; a choice behind its condition,
-- and behind its second operand.
pub data Open : Type 0 where
  prefixed : (o : UnaryOperator) → Open
  infixed : (o : BinaryOperator) (a : Tree) → Open
  parenthesis : Open
  calling : (f : Function) → Open
  calling_on : (call : Tree) → Open
  deciding : (c : Tree) → Open
  otherwise : (c a : Tree) → Open

-- An operand is to come; the parenthesis behind a function's name is to come; an operand has come,
-- and what follows tells whose it is. What stands open is in order, the innermost first.
pub data State : Type 0 where
  wanting : (os : List Open) → State
  naming : (f : Function) (os : List Open) → State
  having : (os : List Open) (a : Tree) → State

-- how deep what stands open nests
abbrev pub weight : Open → ℕ → ℕ
weight (infixed o a) n = n
weight _ n = suc n

unfoldable pub depth : List Open → ℕ
depth [] = 0
depth (o ∷ os) = weight o (depth os)

-- whether an operator that has both operands takes the second, where one of level n follows
abbrev pub takes : BinaryOperator → ℕ → Bool
takes infix_operator.Power n = nat_lt 2 n
takes o n = nat_le (level o) n

pub record Held : Type 0 where
  pub os : List Open
  pub tree : Tree

-- What is left open where an operator of level n follows the operand, and the operand that it then
-- has. A choice takes its third operand at the end alone, which is as a level of 16.
unfoldable pub settle : ℕ → List Open → Tree → Held
settle n [] a = record { os = []; tree = a }
settle n (prefixed o ∷ os) a = settle n os (unary o a)
settle n (infixed o l ∷ os) a = cond (takes o n) (settle n os (binary o l a))
    (record { os = infixed o l ∷ os; tree = a })
settle n (otherwise c l ∷ os) a = cond (nat_lt 15 n) (settle n os (choice c l a))
    (record { os = otherwise c l ∷ os; tree = a })
settle n (o ∷ os) a = record { os = o ∷ os; tree = a }

abbrev pub Step : Type 0
Step = Result State Misfit

-- one more stands open, where there is room
abbrev pub deeper : ℕ → Open → List Open → Step
deeper room o os = cond (nat_lt (depth os) room) (Ok (wanting (o ∷ os))) (Err TooDeep)

abbrev pub name : ℕ → Function → List Open → Step
name room f os = cond (nat_lt (depth os) room) (Ok (naming f os)) (Err TooDeep)

-- 9223372036854775808 behind a minus that nothing separates from it
abbrev pub lowest : List ℕ → List Open → Step
lowest x (prefixed unary_operator.Negate ∷ os) = Ok (having os (leaf (Literal (45 ∷ x))))
lowest x os = Err TooLarge

abbrev pub want_other : ℕ → List Open → Token → Step
want_other room os (token.Operand x) = Ok (having os (leaf x))
want_other room os (token.Lowest x) = lowest x os
want_other room os token.Open = deeper room parenthesis os
want_other room os (token.Function f) = name room f os
want_other room os _ = Err Syntax

abbrev pub want : ℕ → List Open → Token → Option UnaryOperator → Step
want room os t (Some o) = deeper room (prefixed o) os
want room os t None = want_other room os t

abbrev pub named : Function → List Open → Token → Step
named f os token.Open = Ok (wanting (calling f ∷ os))
named f os (token.Lowest x) = Err TooLarge
named f os _ = Err Syntax

abbrev pub between : BinaryOperator → Held → Step
between o h = Ok (wanting (infixed o h.tree ∷ h.os))

abbrev pub question : ℕ → Held → Step
question room h = deeper room (deciding h.tree) h.os

abbrev pub colon_at : List Open → Tree → Step
colon_at (deciding c ∷ os) a = Ok (wanting (otherwise c a ∷ os))
colon_at os a = Err Syntax

abbrev pub close_at : List Open → Tree → Step
close_at (parenthesis ∷ os) a = Ok (having os a)
close_at (calling f ∷ os) a = Ok (having os (first f a))
close_at (calling_on call ∷ os) a = Ok (having os (also call a))
close_at os a = Err Syntax

abbrev pub comma_after : Bool → Tree → List Open → Step
comma_after true call os = Err Syntax
comma_after false call os = Ok (wanting (calling_on call ∷ os))

abbrev pub comma_at : List Open → Tree → Step
comma_at (calling f ∷ os) a = comma_after (takes_one f) (first f a) os
comma_at (calling_on call ∷ os) a = comma_after false (also call a) os
comma_at os a = Err Syntax

abbrev pub have_other : ℕ → List Open → Tree → Token → Step
have_other room os a token.Question = question room (settle 15 os a)
have_other room os a token.Colon = colon_at (settle 16 os a).os (settle 16 os a).tree
have_other room os a token.Close = close_at (settle 16 os a).os (settle 16 os a).tree
have_other room os a token.Comma = comma_at (settle 16 os a).os (settle 16 os a).tree
have_other room os a (token.Lowest x) = Err TooLarge
have_other room os a _ = Err Syntax

abbrev pub have : ℕ → List Open → Tree → Token → Option BinaryOperator → Step
have room os a t (Some o) = between o (settle (level o) os a)
have room os a t None = have_other room os a t

-- what a token makes of what stands open, or how it doesn't fit
unfoldable pub step : ℕ → State → Token → Step
step room (wanting os) t = want room os t (prefix_of t)
step room (naming f os) t = named f os t
step room (having os a) t = have room os a t (infix_of t)

abbrev pub and_then : Step → (State → Step) → Step
and_then (Ok q) f = f q
and_then (Err e) f = Err e

unfoldable pub run : ℕ → State → List Token → Step
run room q [] = Ok q
run room q (t ∷ s) = and_then (step room q t) (λ q'. run room q' s)

abbrev pub only : List Open → Tree → Result Tree Misfit
only [] a = Ok a
only (o ∷ os) a = Err Syntax

-- the tree, where nothing stands open any more
abbrev pub finish : State → Result Tree Misfit
finish (wanting os) = Err Syntax
finish (naming f os) = Err Syntax
finish (having os a) = only (settle 16 os a).os (settle 16 os a).tree

abbrev pub finished : Step → Result Tree Misfit
finished (Ok q) = finish q
finished (Err e) = Err e

-- the tree of the tokens, or how the first that doesn't fit doesn't
abbrev pub read_tokens : ℕ → List Token → Result Tree Misfit
read_tokens room s = finished (run room (wanting []) s)
