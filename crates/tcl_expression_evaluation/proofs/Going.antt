-- Step after step.
use Rattle.std.proofs.Common.{◌≡◌, ◌∙◌, sym, ap, refl, ℕ, zero, suc, ◌+◌, ◌≤◌, ◌<◌, List, [], ◌∷◌, length, drop, Option, Some, None, arith}
use Rattle.std.proofs.lemmas.List.{drop_more}
use Rattle.std.proofs.Math.ListN.{drop_of_length-le}
use Rattle.std.proofs.Common.{get_or, Ok, Err}
use Rattle.tcl_expression_evaluation.specs.declared.fault.ApplyError.{ApplyError}
use Rattle.tcl_expression_evaluation.specs.declared.fault.ApplyError.TheVariants as error
use Rattle.tcl_parser.specs.Words.{WordRead}
use Rattle.tcl_text.specs.declared.integer.Integers.{Integers}
use Rattle.tcl_value.specs.Limits.{Bytes}
use Rattle.tcl_expr.specs.declared.operator.BinaryOperator.{BinaryOperator}
use Rattle.tcl_expr.specs.declared.operator.BinaryOperator.TheVariants as operator
use Rattle.tcl_expr.specs.declared.token.Leaf.{Leaf}
use Rattle.tcl_expr.specs.declared.tree.Node.{Node}
use Rattle.tcl_expr.specs.declared.tree.Node.TheVariants as node
use Rattle.tcl_expression_evaluation.specs.Computations.{Computation, value, substitute, operand, and_then}
use Rattle.tcl_expression_evaluation.specs.Apply.{apply_binary}
use Rattle.tcl_expression_evaluation.specs.AtHand.{steps_of_two}
use Rattle.tcl_expression_evaluation.specs.Steps.{Mode, doing, leaving, passed, does, goes, from, top, Acts, Advances}

pub goes_nil : (style : Integers) (m : Mode) (s : List Bytes) → goes style [] m s ≡ value (top s)
unfolding goes
goes_nil style m s = refl

pub goes_doing : (style : Integers) (n : Node) (code : List Node) (s : List Bytes) → goes style (n ∷ code) doing s ≡ does style n s (goes style code)
unfolding goes
goes_doing style n code s = refl

pub goes_leaving : (style : Integers) (n : Node) (code : List Node) (d : ℕ) (s : List Bytes) → goes style (n ∷ code) (leaving d) s ≡ goes style code (passed n d) s
unfolding goes
goes_leaving style n code d s = refl

-- the step at a place, and behind the last one
pub at_node : (code : List Node) (i : ℕ) (n : Node) → i < length code → n ≡ get_or code i n → drop i code ≡ n ∷ drop (i + 1) code
at_node code i n within is = drop_more code i n within ∙ ap (λ x. x ∷ drop (i + 1) code) (sym is)

pub past : (code : List Node) (i : ℕ) → length code ≤ i → drop i code ≡ []
past code i h = drop_of_length-le code {i = i} h

pub done_at : (style : Integers) (code : List Node) (i : ℕ) (n : Node) (s : List Bytes) → i < length code → n ≡ get_or code i n → goes style (drop i code) doing s ≡ does style n s (goes style (drop (i + 1) code))
done_at style code i n s within is = ap (λ c. goes style c doing s) (at_node code i n within is) ∙ goes_doing style n (drop (i + 1) code) s

pub done_past : (style : Integers) (code : List Node) (i : ℕ) (s : List Bytes) → length code ≤ i → goes style (drop i code) doing s ≡ value (top s)
done_past style code i s h = ap (λ c. goes style c doing s) (past code i h) ∙ goes_nil style doing s

pub acts_some : {W : Type 0} (seen : W → WordRead) (r : Option W) (w : W) (c rest : Computation) (go : Bytes → Computation) → r ≡ Some w → Acts seen (Ok r) c rest go → c ≡ substitute (seen w) go
acts_some seen (Some x) w c rest go is h = let same : x ≡ w = cc in h ∙ ap (λ y. substitute (seen y) go) same
acts_some seen None w c rest go is h = absurd (cc)

pub acts_none : {W : Type 0} (seen : W → WordRead) (r : Option W) (c rest : Computation) (go : Bytes → Computation) → r ≡ None → Acts seen (Ok r) c rest go → c ≡ rest
acts_none seen (Some x) c rest go is h = absurd (cc)
acts_none seen None c rest go is h = h

pub acts_error : {W : Type 0} (seen : W → WordRead) (e : ApplyError) (b c rest : Computation) (go go' : Bytes → Computation) → b ≡ c → Acts seen (Err e) c rest go → Advances (Err e) b go'
acts_error seen error.Memory b c rest go go' is h = tt
acts_error seen (error.Fault f) b c rest go go' is h = is ∙ h

-- ## Leaving out

pub left_on : (style : Integers) (code : List Node) (i d : ℕ) (n : Node) (s : List Bytes) → i < length code → n ≡ get_or code i n → goes style (drop i code) (leaving d) s ≡ goes style (drop (i + 1) code) (passed n d) s
left_on style code i d n s within is = ap (λ c. goes style c (leaving d) s) (at_node code i n within is) ∙ goes_leaving style n (drop (i + 1) code) d s

pub left_past : (style : Integers) (code : List Node) (i d : ℕ) (s : List Bytes) → length code ≤ i → goes style (drop i code) (leaving d) s ≡ goes style (drop i code) doing s
left_past style code i d s h = ap (λ c. goes style c (leaving d) s) (past code i h) ∙ goes_nil style (leaving d) s ∙ sym (goes_nil style doing s) ∙ ap (λ c. goes style c doing s) (sym (past code i h))

-- one mark more at most
deeper_of : Mode → ℕ
deeper_of doing = 0
deeper_of (leaving d) = d

one_more : (n : Node) (d : ℕ) → deeper_of (passed n d) ≤ suc d
unfolding deeper_of
one_more (node.Needed o) d = omega arith
one_more (node.Binary operator.And) zero = omega arith
one_more (node.Binary operator.And) (suc d) = omega arith
one_more (node.Binary operator.Or) zero = omega arith
one_more (node.Binary operator.Or) (suc d) = omega arith
one_more node.Question d = omega arith
one_more node.Colon zero = omega arith
one_more node.Colon (suc d) = omega arith
one_more node.Choice zero = omega arith
one_more node.Choice (suc d) = omega arith
one_more n d = omega arith

pub nests : (n : Node) (d e : ℕ) → passed n d ≡ leaving e → e ≤ suc d
unfolding deeper_of
nests n d e h = omega (arith, ap deeper_of h, one_more n d)

-- two operands and an operator, one after another
pub two_steps : (style : Integers) (l r : Leaf) (o : BinaryOperator) → from style (steps_of_two l o r) 0 [] ≡ operand l (λ x. operand r (λ y. and_then (apply_binary style o x y) value))
unfolding goes
two_steps style l r o = refl

-- a step that is left out, with those behind it
pub left_next : (style : Integers) (code more : List Node) (n : Node) (d : ℕ) (m : Mode) (s : List Bytes) → code ≡ n ∷ more → passed n d ≡ m → goes style code (leaving d) s ≡ goes style more m s
left_next style code more n d m s is to = ap (λ c. goes style c (leaving d) s) is ∙ goes_leaving style n more d s ∙ ap (λ m. goes style more m s) to

pub left_nothing : (style : Integers) (code : List Node) (d : ℕ) (s : List Bytes) → code ≡ [] → goes style code (leaving d) s ≡ goes style code doing s
left_nothing style code d s is = ap (λ c. goes style c (leaving d) s) is ∙ goes_nil style (leaving d) s ∙ sym (goes_nil style doing s) ∙ ap (λ c. goes style c doing s) (sym is)
