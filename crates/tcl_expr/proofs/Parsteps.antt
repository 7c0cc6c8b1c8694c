-- What each token makes of what the parser keeps.
use Rattle.std.proofs.Common.{◌≡◌, ◌∙◌, sym, ap, subst, refl, ℕ, suc, ◌+◌, ◌-◌, ◌≤◌, ◌<◌, Bool, true, false, not, cond, nat_lt, List, [], ◌∷◌, ◌++◌, Option, Some, None, Ok, Err, arith, append_assoc}
use Rattle.std.proofs.lemmas.Bool.Decides.{nat_tests}
use Rattle.std.proofs.lemmas.List.{append-nil}
use Rattle.tcl_expr.specs.declared.operator.BinaryOperator.{BinaryOperator}
use Rattle.tcl_expr.specs.declared.operator.Function.{Function}
use Rattle.tcl_expr.specs.declared.operator.UnaryOperator.TheVariants as unary_operator
use Rattle.tcl_expr.specs.declared.token.Leaf.{Leaf}
use Rattle.tcl_expr.specs.declared.token.Leaf.TheVariants.{Literal}
use Rattle.tcl_expr.specs.declared.grammar.Misfit.{Misfit}
use Rattle.tcl_expr.specs.declared.grammar.Misfit.TheVariants as misfits
use Rattle.tcl_expr.specs.Trees.{Tree, leaf, first, also}
use Rattle.tcl_expr.specs.declared.token.Token.{Token}
use Rattle.tcl_expr.specs.Grammar.{takes_one, prefix_of, infix_of}
use Rattle.tcl_expr.specs.Reading.{Open, prefixed, infixed, parenthesis, calling, calling_on, deciding, otherwise, depth, weight, State, Step, wanting, naming, having, step, want, named, have, only, deeper, name, lowest, colon_at, close_at, comma_at, comma_after}
use Rattle.tcl_expr.specs.declared.fault.ExprFault.{ExprFault}
use Rattle.tcl_expr.specs.declared.fault.ExprFault.TheVariants.{Syntax, TooLarge}
use Rattle.tcl_expr.specs.declared.fault.ExprError.{ExprError}
use Rattle.tcl_expr.specs.declared.fault.ExprError.TheVariants as error
use Rattle.tcl_expr.specs.declared.parser.Mode.{Mode}
use Rattle.tcl_expr.specs.declared.parser.Mode.TheVariants as mode
use Rattle.tcl_expr.specs.Expressions.{fault_of, told}
use Rattle.tcl_expr.specs.declared.tree.ExprTree.{ExprTree}
use Rattle.tcl_expr.specs.declared.tree.Node.{Node}
use Rattle.tcl_expr.specs.declared.tree.Node.TheVariants as node
use Rattle.tcl_expr.specs.declared.parser.End.{End}
use Rattle.tcl_expr.specs.declared.parser.End.TheVariants as end
use Rattle.tcl_expr.specs.declared.parser.Pending.{Pending}
use Rattle.tcl_expr.specs.declared.parser.Pending.TheVariants as pending
use Rattle.tcl_expr.specs.Code.{mark, function_of, count_of, before, code_of}
use Rattle.tcl_expr.specs.Parsing.{pending_of, stack_of, steps_of, steps_before, is_deciding, is_negation, end_of, argument_end, Keeps, Holds, Stands, Comes, Opens}
use Rattle.tcl_expr.proofs.Parsings.{stack_cons, steps_cons, depth_cons, last_open, none_open}

-- something opens behind steps
pub opened : (o : Open) (os : List Open) (nodes : List Node) (p : List Pending) (d e : ℕ) (more extra : List Node) → Holds nodes p d os more → more ++ extra ≡ steps_of o → e ≡ weight o d → Holds (nodes ++ extra) (p ++ pending_of o ∷ []) e (o ∷ os) []
opened o os nodes p d e more extra h s w = record {
  nodes_are = ap (λ x. x ++ extra) h.nodes_are ∙ append_assoc (steps_before os) more extra ∙ ap (λ x. steps_before os ++ x) s ∙ sym (steps_cons o os) ∙ sym (append-nil (steps_before (o ∷ os)));
  open_is = ap (λ x. x ++ pending_of o ∷ []) h.open_is ∙ sym (stack_cons o os);
  deep_is = w ∙ ap (weight o) h.deep_is ∙ sym (depth_cons o os);
}

-- what stands open last ends, and its tree is the operand
pub ended : (o : Open) (os : List Open) (nodes : List Node) (p xs : List Pending) (d : ℕ) (more extra : List Node) (a : Tree) → Holds nodes p d (o ∷ os) more → xs ≡ stack_of os → (steps_of o ++ more) ++ extra ≡ code_of a → ((n : ℕ) → weight o n ≡ suc n) → Holds (nodes ++ extra) xs (d - 1) os (code_of a)
ended o os nodes p xs d more extra a h x s w = record {
  nodes_are = ap (λ y. y ++ extra) (h.nodes_are ∙ ap (λ y. y ++ more) (steps_cons o os) ∙ append_assoc (steps_before os) (steps_of o) more) ∙ append_assoc (steps_before os) (steps_of o ++ more) extra ∙ ap (λ y. steps_before os ++ y) s;
  open_is = x;
  deep_is = let e : suc (depth os) - 1 ≡ depth os = omega arith in ap (λ y. y - 1) (h.deep_is ∙ depth_cons o os ∙ w (depth os)) ∙ e;
}

-- ## Operands and what stands before them

code_leaf : (x : Leaf) → code_of (leaf x) ≡ node.Operand x ∷ []
unfolding before
code_leaf x = refl

pub operand_holds : (os : List Open) (nodes : List Node) (p : List Pending) (d : ℕ) (x : Leaf) → Holds nodes p d os [] → Holds (nodes ++ node.Operand x ∷ []) p d os (code_of (leaf x))
operand_holds os nodes p d x h = record {
  nodes_are = ap (λ y. y ++ node.Operand x ∷ []) (h.nodes_are ∙ append-nil (steps_before os)) ∙ ap (λ y. steps_before os ++ y) (sym (code_leaf x));
  open_is = h.open_is;
  deep_is = h.deep_is;
}

pub deeper_holds : (os : List Open) (o : Open) (nodes : List Node) (p : List Pending) (d : ℕ) (x : Pending) → Holds nodes p d os [] → Opens x o → Holds nodes (p ++ x ∷ []) (d + 1) (o ∷ os) []
deeper_holds os o nodes p d x h i = record {
  nodes_are = h.nodes_are ∙ append-nil (steps_before os) ∙ sym (append-nil (steps_before os)) ∙ ap (λ y. steps_before os ++ y) (sym i.no_steps) ∙ sym (steps_cons o os) ∙ sym (append-nil (steps_before (o ∷ os)));
  open_is = ap (λ y. p ++ y ∷ []) i.is ∙ ap (λ y. y ++ pending_of o ∷ []) h.open_is ∙ sym (stack_cons o os);
  deep_is = let e : d + 1 ≡ suc d = omega arith in e ∙ sym (i.nests d) ∙ ap (weight o) h.deep_is ∙ sym (depth_cons o os);
}

-- ## Behind an operand

pub infix_holds : (o : BinaryOperator) (t : Tree) (os : List Open) (nodes : List Node) (p : List Pending) (d : ℕ) → Holds nodes p d os (code_of t) → Holds (nodes ++ mark o) (p ++ pending.Infixed o ∷ []) d (infixed o t ∷ os) []
infix_holds o t os nodes p d h = opened (infixed o t) os nodes p d d (code_of t) (mark o) h refl refl

pub question_holds : (t : Tree) (os : List Open) (nodes : List Node) (p : List Pending) (d : ℕ) → Holds nodes p d os (code_of t) → Holds (nodes ++ node.Question ∷ []) (p ++ pending.Deciding ∷ []) (d + 1) (deciding t ∷ os) []
question_holds t os nodes p d h = opened (deciding t) os nodes p d (d + 1) (code_of t) (node.Question ∷ []) h refl (omega arith)

-- what stands open last is gone, and its first steps stay
pub record Colons (os : List Open) (a : Tree) (nodes : List Node) (xs : List Pending) (d : ℕ) : Type 0 where
  pub c : Tree
  pub rest : List Open
  pub gives : colon_at os a ≡ Ok (wanting (otherwise c a ∷ rest))
  pub holds : Holds (nodes ++ node.Colon ∷ []) (xs ++ pending.Otherwise ∷ []) d (otherwise c a ∷ rest) []

colon_last : (o : Open) (rest : List Open) (a : Tree) (nodes : List Node) (p xs : List Pending) (d : ℕ) → Holds nodes p d (o ∷ rest) (code_of a) → xs ≡ stack_of rest → is_deciding (pending_of o) ≡ true → Colons (o ∷ rest) a nodes xs d
colon_last (deciding c) rest a nodes p xs d h below top = record {
  c = c;
  rest = rest;
  gives = refl;
  holds = record {
    nodes_are = ap (λ y. y ++ node.Colon ∷ []) (h.nodes_are ∙ ap (λ y. y ++ code_of a) (steps_cons (deciding c) rest) ∙ append_assoc (steps_before rest) (code_of c ++ node.Question ∷ []) (code_of a)) ∙ append_assoc (steps_before rest) ((code_of c ++ node.Question ∷ []) ++ code_of a) (node.Colon ∷ []) ∙ sym (steps_cons (otherwise c a) rest) ∙ sym (append-nil (steps_before (otherwise c a ∷ rest)));
    open_is = ap (λ y. y ++ pending.Otherwise ∷ []) below ∙ sym (stack_cons (otherwise c a) rest);
    deep_is = h.deep_is ∙ depth_cons (deciding c) rest ∙ sym (depth_cons (otherwise c a) rest);
  };
}
colon_last (prefixed u) rest a nodes p xs d h below top = absurd (cc)
colon_last (infixed o t) rest a nodes p xs d h below top = absurd (cc)
colon_last parenthesis rest a nodes p xs d h below top = absurd (cc)
colon_last (calling f) rest a nodes p xs d h below top = absurd (cc)
colon_last (calling_on call) rest a nodes p xs d h below top = absurd (cc)
colon_last (otherwise c t) rest a nodes p xs d h below top = absurd (cc)

pub colon_comes : (os : List Open) (a : Tree) (nodes : List Node) (p xs : List Pending) (x : Pending) (d : ℕ) → Holds nodes p d os (code_of a) → p ≡ xs ++ x ∷ [] → is_deciding x ≡ true → Colons os a nodes xs d
colon_comes os a nodes p xs x d h is top =
    let l = last_open xs x os (sym is ∙ h.open_is) in
    subst (λ y. Colons y a nodes xs d) (sym l.whole) (colon_last l.o l.rest a nodes p xs d (subst (λ y. Holds nodes p d y (code_of a)) l.whole h) l.below (ap is_deciding (sym l.top) ∙ top))

colon_other : (o : Open) (rest : List Open) (a : Tree) → is_deciding (pending_of o) ≡ false → colon_at (o ∷ rest) a ≡ Err misfits.Syntax
colon_other (deciding c) rest a h = absurd (cc)
colon_other (prefixed u) rest a h = refl
colon_other (infixed o t) rest a h = refl
colon_other parenthesis rest a h = refl
colon_other (calling f) rest a h = refl
colon_other (calling_on call) rest a h = refl
colon_other (otherwise c t) rest a h = refl

pub colon_fails : (os : List Open) (a : Tree) (nodes : List Node) (p xs : List Pending) (x : Pending) (d : ℕ) → Holds nodes p d os (code_of a) → p ≡ xs ++ x ∷ [] → is_deciding x ≡ false → colon_at os a ≡ Err misfits.Syntax
colon_fails os a nodes p xs x d h is other =
    let l = last_open xs x os (sym is ∙ h.open_is) in
    ap (λ y. colon_at y a) l.whole ∙ colon_other l.o l.rest a (ap is_deciding (sym l.top) ∙ other)

pub colon_fails_empty : (os : List Open) (a : Tree) (nodes : List Node) (p : List Pending) (d : ℕ) → Holds nodes p d os (code_of a) → [] ≡ p → colon_at os a ≡ Err misfits.Syntax
colon_fails_empty os a nodes p d h is = ap (λ y. colon_at y a) (none_open os (is ∙ h.open_is))

-- ## Closing

code_first : (f : Function) (a : Tree) → code_of a ++ node.Call f 1 ∷ [] ≡ code_of (first f a)
unfolding before
code_first f a = refl

code_also : (call a : Tree) → (before call ++ code_of a) ++ node.Call (function_of call) (suc (count_of call)) ∷ [] ≡ code_of (also call a)
unfolding before
code_also call a = refl

-- the steps with which what stands open ends at a close parenthesis
abbrev pub EndsBy : End → List Node → Type 0
EndsBy end.Group extra = [] ≡ extra
EndsBy (end.Step nd) extra = nd ∷ [] ≡ extra
EndsBy end.Missing extra = Prim.⊥

-- what stands open last ends with these steps, as the operand that the token makes of it
pub record Closed (os : List Open) (a : Tree) (nodes : List Node) (xs : List Pending) (d : ℕ) (extra : List Node) : Type 0 where
  pub rest : List Open
  pub tree : Tree
  pub gives : close_at os a ≡ Ok (having rest tree)
  pub holds : Holds (nodes ++ extra) xs (d - 1) rest (code_of tree)

close_last : (o : Open) (rest : List Open) (a : Tree) (nodes : List Node) (p xs : List Pending) (d : ℕ) (extra : List Node) → Holds nodes p d (o ∷ rest) (code_of a) → xs ≡ stack_of rest → EndsBy (end_of (pending_of o)) extra → Closed (o ∷ rest) a nodes xs d extra
close_last parenthesis rest a nodes p xs d extra h below top = record { rest = rest; tree = a; gives = refl; holds = ended parenthesis rest nodes p xs d (code_of a) extra a h below (ap (λ y. code_of a ++ y) (sym top) ∙ append-nil (code_of a)) (λ n. refl) }
close_last (calling f) rest a nodes p xs d extra h below top = record { rest = rest; tree = first f a; gives = refl; holds = ended (calling f) rest nodes p xs d (code_of a) extra (first f a) h below (ap (λ y. code_of a ++ y) (sym top) ∙ code_first f a) (λ n. refl) }
close_last (calling_on call) rest a nodes p xs d extra h below top = record { rest = rest; tree = also call a; gives = refl; holds = ended (calling_on call) rest nodes p xs d (code_of a) extra (also call a) h below (ap (λ y. (before call ++ code_of a) ++ y) (sym top) ∙ code_also call a) (λ n. refl) }
close_last (prefixed u) rest a nodes p xs d extra h below top = absurd top
close_last (infixed o t) rest a nodes p xs d extra h below top = absurd top
close_last (deciding c) rest a nodes p xs d extra h below top = absurd top
close_last (otherwise c t) rest a nodes p xs d extra h below top = absurd top

pub close_comes : (os : List Open) (a : Tree) (nodes : List Node) (p xs : List Pending) (x : Pending) (d : ℕ) (extra : List Node) (e : End) → Holds nodes p d os (code_of a) → p ≡ xs ++ x ∷ [] → end_of x ≡ e → EndsBy e extra → Closed os a nodes xs d extra
close_comes os a nodes p xs x d extra e h is ends by =
    let l = last_open xs x os (sym is ∙ h.open_is) in
    subst (λ y. Closed y a nodes xs d extra) (sym l.whole) (close_last l.o l.rest a nodes p xs d extra (subst (λ y. Holds nodes p d y (code_of a)) l.whole h) l.below (subst (λ y. EndsBy y extra) (sym ends ∙ ap end_of l.top) by))

close_other : (o : Open) (rest : List Open) (a : Tree) → end_of (pending_of o) ≡ end.Missing → close_at (o ∷ rest) a ≡ Err misfits.Syntax
close_other parenthesis rest a h = absurd (cc)
close_other (calling f) rest a h = absurd (cc)
close_other (calling_on call) rest a h = absurd (cc)
close_other (deciding c) rest a h = refl
close_other (prefixed u) rest a h = refl
close_other (infixed o t) rest a h = refl
close_other (otherwise c t) rest a h = refl

pub close_fails : (os : List Open) (a : Tree) (nodes : List Node) (p xs : List Pending) (x : Pending) (d : ℕ) → Holds nodes p d os (code_of a) → p ≡ xs ++ x ∷ [] → end_of x ≡ end.Missing → close_at os a ≡ Err misfits.Syntax
close_fails os a nodes p xs x d h is other =
    let l = last_open xs x os (sym is ∙ h.open_is) in
    ap (λ y. close_at y a) l.whole ∙ close_other l.o l.rest a (ap end_of (sym l.top) ∙ other)

pub close_fails_empty : (os : List Open) (a : Tree) (nodes : List Node) (p : List Pending) (d : ℕ) → Holds nodes p d os (code_of a) → [] ≡ p → close_at os a ≡ Err misfits.Syntax
close_fails_empty os a nodes p d h is = ap (λ y. close_at y a) (none_open os (is ∙ h.open_is))

-- ## Arguments

pub record Continues (os : List Open) (a : Tree) (nodes : List Node) (xs : List Pending) (d : ℕ) (f : Function) (n : ℕ) : Type 0 where
  pub rest : List Open
  pub call : Tree
  pub gives : comma_at os a ≡ Ok (wanting (calling_on call ∷ rest))
  pub holds : Holds nodes (xs ++ pending.CallingOn f (suc n) ∷ []) d (calling_on call ∷ rest) []

continues_with : (o : Open) (rest : List Open) (a call : Tree) (nodes : List Node) (p xs : List Pending) (d : ℕ) (f : Function) (n : ℕ) → Holds nodes p d (o ∷ rest) (code_of a) → xs ≡ stack_of rest → steps_of o ++ code_of a ≡ before call → function_of call ≡ f → count_of call ≡ n → ((m : ℕ) → weight o m ≡ suc m) → Holds nodes (xs ++ pending.CallingOn f (suc n) ∷ []) d (calling_on call ∷ rest) []
continues_with o rest a call nodes p xs d f n h below s is many w = record {
  nodes_are = h.nodes_are ∙ ap (λ y. y ++ code_of a) (steps_cons o rest) ∙ append_assoc (steps_before rest) (steps_of o) (code_of a) ∙ ap (λ y. steps_before rest ++ y) s ∙ sym (steps_cons (calling_on call) rest) ∙ sym (append-nil (steps_before (calling_on call ∷ rest)));
  open_is = ap (λ y. y ++ pending.CallingOn f (suc n) ∷ []) below ∙ ap (λ y. stack_of rest ++ pending.CallingOn y (suc n) ∷ []) (sym is) ∙ ap (λ y. stack_of rest ++ pending.CallingOn (function_of call) (suc y) ∷ []) (sym many) ∙ sym (stack_cons (calling_on call) rest);
  deep_is = h.deep_is ∙ depth_cons o rest ∙ w (depth rest) ∙ sym (depth_cons (calling_on call) rest);
}

before_first : (f : Function) (a : Tree) → code_of a ≡ before (first f a)
unfolding before
before_first f a = refl

before_also : (call a : Tree) → before call ++ code_of a ≡ before (also call a)
unfolding before
before_also call a = refl

call_goes_on : (g : Function) (rest : List Open) (a : Tree) (nodes : List Node) (p xs : List Pending) (d : ℕ) (f : Function) (n : ℕ) (t : Bool) → takes_one g ≡ t → Holds nodes p d (calling g ∷ rest) (code_of a) → xs ≡ stack_of rest → ◌≡◌ {A = Option (Function × ℕ)} (cond {A = Option (Function × ℕ)} (not t) (Some (g, 1)) None) (Some (f, n)) → Continues (calling g ∷ rest) a nodes xs d f n
call_goes_on g rest a nodes p xs d f n true e h below top = absurd (cc)
call_goes_on g rest a nodes p xs d f n false e h below top = record {
  rest = rest;
  call = first g a;
  gives = ap (λ b. comma_after b (first g a) rest) e;
  holds = continues_with (calling g) rest a (first g a) nodes p xs d f n h below (before_first g a) (let q : ◌≡◌ {A = Function × ℕ} (g, 1) (f, n) = cc in ap (λ (x : Function × ℕ). x.0) q) (let q : ◌≡◌ {A = Function × ℕ} (g, 1) (f, n) = cc in ap (λ (x : Function × ℕ). x.1) q) (λ m. refl);
}

comma_last : (o : Open) (rest : List Open) (a : Tree) (nodes : List Node) (p xs : List Pending) (d : ℕ) (f : Function) (n : ℕ) → Holds nodes p d (o ∷ rest) (code_of a) → xs ≡ stack_of rest → argument_end (pending_of o) ≡ Some (f, n) → Continues (o ∷ rest) a nodes xs d f n
comma_last (calling g) rest a nodes p xs d f n h below top = call_goes_on g rest a nodes p xs d f n (takes_one g) refl h below top
comma_last (calling_on call) rest a nodes p xs d f n h below top = record {
  rest = rest;
  call = also call a;
  gives = refl;
  holds = continues_with (calling_on call) rest a (also call a) nodes p xs d f n h below (before_also call a) (let q : ◌≡◌ {A = Function × ℕ} (function_of call, suc (count_of call)) (f, n) = cc in ap (λ (x : Function × ℕ). x.0) q) (let q : ◌≡◌ {A = Function × ℕ} (function_of call, suc (count_of call)) (f, n) = cc in ap (λ (x : Function × ℕ). x.1) q) (λ m. refl);
}
comma_last parenthesis rest a nodes p xs d f n h below top = absurd (cc)
comma_last (prefixed u) rest a nodes p xs d f n h below top = absurd (cc)
comma_last (infixed o t) rest a nodes p xs d f n h below top = absurd (cc)
comma_last (deciding c) rest a nodes p xs d f n h below top = absurd (cc)
comma_last (otherwise c t) rest a nodes p xs d f n h below top = absurd (cc)

pub comma_comes : (os : List Open) (a : Tree) (nodes : List Node) (p xs : List Pending) (x : Pending) (d : ℕ) (f : Function) (n : ℕ) → Holds nodes p d os (code_of a) → p ≡ xs ++ x ∷ [] → argument_end x ≡ Some (f, n) → Continues os a nodes xs d f n
comma_comes os a nodes p xs x d f n h is top =
    let l = last_open xs x os (sym is ∙ h.open_is) in
    subst (λ y. Continues y a nodes xs d f n) (sym l.whole) (comma_last l.o l.rest a nodes p xs d f n (subst (λ y. Holds nodes p d y (code_of a)) l.whole h) l.below (ap argument_end (sym l.top) ∙ top))

call_stops : (f : Function) (rest : List Open) (a : Tree) (t : Bool) → takes_one f ≡ t → ◌≡◌ {A = Option (Function × ℕ)} (cond {A = Option (Function × ℕ)} (not t) (Some (f, 1)) None) None → comma_at (calling f ∷ rest) a ≡ Err misfits.Syntax
call_stops f rest a true e h = ap (λ b. comma_after b (first f a) rest) e
call_stops f rest a false e h = absurd (cc)

comma_other : (o : Open) (rest : List Open) (a : Tree) → argument_end (pending_of o) ≡ None → comma_at (o ∷ rest) a ≡ Err misfits.Syntax
comma_other (calling f) rest a h = call_stops f rest a (takes_one f) refl h
comma_other (calling_on call) rest a h = absurd (cc)
comma_other parenthesis rest a h = refl
comma_other (deciding c) rest a h = refl
comma_other (prefixed u) rest a h = refl
comma_other (infixed o t) rest a h = refl
comma_other (otherwise c t) rest a h = refl

pub comma_fails : (os : List Open) (a : Tree) (nodes : List Node) (p xs : List Pending) (x : Pending) (d : ℕ) → Holds nodes p d os (code_of a) → p ≡ xs ++ x ∷ [] → argument_end x ≡ None → comma_at os a ≡ Err misfits.Syntax
comma_fails os a nodes p xs x d h is other =
    let l = last_open xs x os (sym is ∙ h.open_is) in
    ap (λ y. comma_at y a) l.whole ∙ comma_other l.o l.rest a (ap argument_end (sym l.top) ∙ other)

pub comma_fails_empty : (os : List Open) (a : Tree) (nodes : List Node) (p : List Pending) (d : ℕ) → Holds nodes p d os (code_of a) → [] ≡ p → comma_at os a ≡ Err misfits.Syntax
comma_fails_empty os a nodes p d h is = ap (λ y. comma_at y a) (none_open os (is ∙ h.open_is))

-- ## What a step comes to

pub comes_ok : (nodes : List Node) (p : List Pending) (d : ℕ) (m : Mode) (s : Step) (q : State) → s ≡ Ok q → Stands nodes p d m q → Comes nodes p d (Ok m) s
comes_ok nodes p d m s q e h = subst (Comes nodes p d (Ok m)) (sym e) h

pub comes_fault : (nodes : List Node) (p : List Pending) (d : ℕ) (s : Step) (f : ExprFault) (e : Misfit) → s ≡ Err e → f ≡ fault_of e → Comes nodes p d (Err (error.Fault f)) s
comes_fault nodes p d s f e is h = subst (Comes nodes p d (Err (error.Fault f))) (sym is) h

pub deeper_is : (o : Open) (os : List Open) (d : ℕ) → d ≡ depth os → d < 200 → deeper 200 o os ≡ Ok (wanting (o ∷ os))
deeper_is o os d e h = let t : nat_lt (depth os) 200 ≡ true = grind (arith, nat_tests) in ap (λ b. cond b (Ok (wanting (o ∷ os))) (Err misfits.TooDeep)) t

pub deeper_not : (o : Open) (os : List Open) (d : ℕ) → d ≡ depth os → 200 ≤ d → deeper 200 o os ≡ Err misfits.TooDeep
deeper_not o os d e h = let t : nat_lt (depth os) 200 ≡ false = grind (arith, nat_tests) in ap (λ b. cond b (Ok (wanting (o ∷ os))) (Err misfits.TooDeep)) t

-- a name comes as what it calls opens
pub name_comes : (nodes : List Node) (p : List Pending) (d : ℕ) (f : Function) (os : List Open) (m : Mode) → Comes nodes p d (Ok m) (deeper 200 (calling f) os) → Comes nodes p d (Ok mode.Naming) (name 200 f os)
name_comes nodes p d f os m h = by (nat_lt (depth os) 200) h
  where
    wanted : (k : Mode) → Stands nodes p d k (wanting (calling f ∷ os)) → Holds nodes p d (calling f ∷ os) []
    wanted mode.Wanting g = g
    wanted mode.Naming g = absurd g
    wanted mode.Having g = absurd g

    by : (b : Bool) → Comes nodes p d (Ok m) (cond b (Ok (wanting (calling f ∷ os))) (Err misfits.TooDeep)) → Comes nodes p d (Ok mode.Naming) (cond b (Ok (naming f os)) (Err misfits.TooDeep))
    by true g = wanted m g
    by false g = absurd g

pub name_fails : (nodes : List Node) (p : List Pending) (d : ℕ) (f : Function) (os : List Open) (e : ExprError) → Comes nodes p d (Err e) (deeper 200 (calling f) os) → Comes nodes p d (Err e) (name 200 f os)
name_fails nodes p d f os error.Memory h = tt
name_fails nodes p d f os (error.Fault g) h = by (nat_lt (depth os) 200) h
  where
    by : (b : Bool) → Comes nodes p d (Err (error.Fault g)) (cond b (Ok (wanting (calling f ∷ os))) (Err misfits.TooDeep)) → Comes nodes p d (Err (error.Fault g)) (cond b (Ok (naming f os)) (Err misfits.TooDeep))
    by true k = absurd k
    by false k = k

-- the least number

lowest_last : (o : Open) (rest : List Open) (ns : List Node) (q ys : List Pending) (n : ℕ) (w : List ℕ) → Holds ns q n (o ∷ rest) [] → ys ≡ stack_of rest → is_negation (pending_of o) ≡ true → (lowest w (o ∷ rest) ≡ Ok (having rest (leaf (Literal (45 ∷ w))))) × Holds (ns ++ node.Operand (Literal (45 ∷ w)) ∷ []) ys (n - 1) rest (code_of (leaf (Literal (45 ∷ w))))
lowest_last (prefixed unary_operator.Negate) rest ns q ys n w k below t = (refl, ended (prefixed unary_operator.Negate) rest ns q ys n [] (node.Operand (Literal (45 ∷ w)) ∷ []) (leaf (Literal (45 ∷ w))) k below (sym (code_leaf (Literal (45 ∷ w)))) (λ m. refl))
lowest_last (prefixed unary_operator.Plus) rest ns q ys n w k below t = absurd (cc)
lowest_last (prefixed unary_operator.Complement) rest ns q ys n w k below t = absurd (cc)
lowest_last (prefixed unary_operator.Not) rest ns q ys n w k below t = absurd (cc)
lowest_last (infixed o t) rest ns q ys n w k below e = absurd (cc)
lowest_last parenthesis rest ns q ys n w k below e = absurd (cc)
lowest_last (calling f) rest ns q ys n w k below e = absurd (cc)
lowest_last (calling_on call) rest ns q ys n w k below e = absurd (cc)
lowest_last (deciding c) rest ns q ys n w k below e = absurd (cc)
lowest_last (otherwise c t) rest ns q ys n w k below e = absurd (cc)

pub lowest_comes : (os : List Open) (nodes : List Node) (p xs : List Pending) (x : Pending) (d : ℕ) (digits : List ℕ) → Holds nodes p d os [] → p ≡ xs ++ x ∷ [] → is_negation x ≡ true → (rest : List Open) × (lowest digits os ≡ Ok (having rest (leaf (Literal (45 ∷ digits))))) × Holds (nodes ++ node.Operand (Literal (45 ∷ digits)) ∷ []) xs (d - 1) rest (code_of (leaf (Literal (45 ∷ digits))))
lowest_comes os nodes p xs x d digits h is top =
    let l = last_open xs x os (sym is ∙ h.open_is) in
    let g = lowest_last l.o l.rest nodes p xs d digits (subst (λ y. Holds nodes p d y []) l.whole h) l.below (ap is_negation (sym l.top) ∙ top) in
    (l.rest, ap (lowest digits) l.whole ∙ g.0, g.1)

lowest_other : (o : Open) (rest : List Open) (w : List ℕ) → is_negation (pending_of o) ≡ false → lowest w (o ∷ rest) ≡ Err misfits.TooLarge
lowest_other (prefixed unary_operator.Negate) rest w h = absurd (cc)
lowest_other (prefixed unary_operator.Plus) rest w h = refl
lowest_other (prefixed unary_operator.Complement) rest w h = refl
lowest_other (prefixed unary_operator.Not) rest w h = refl
lowest_other (infixed o t) rest w h = refl
lowest_other parenthesis rest w h = refl
lowest_other (calling f) rest w h = refl
lowest_other (calling_on call) rest w h = refl
lowest_other (deciding c) rest w h = refl
lowest_other (otherwise c t) rest w h = refl

pub lowest_fails : (os : List Open) (nodes : List Node) (p xs : List Pending) (x : Pending) (d : ℕ) (w : List ℕ) → Holds nodes p d os [] → p ≡ xs ++ x ∷ [] → is_negation x ≡ false → lowest w os ≡ Err misfits.TooLarge
lowest_fails os nodes p xs x d w h is other =
    let l = last_open xs x os (sym is ∙ h.open_is) in
    ap (lowest w) l.whole ∙ lowest_other l.o l.rest w (ap is_negation (sym l.top) ∙ other)

pub lowest_fails_empty : (os : List Open) (nodes : List Node) (p : List Pending) (d : ℕ) (w : List ℕ) → Holds nodes p d os [] → [] ≡ p → lowest w os ≡ Err misfits.TooLarge
lowest_fails_empty os nodes p d w h is = ap (lowest w) (none_open os (is ∙ h.open_is))

-- ## As the code goes about it

pub holds_as : (nodes nodes' : List Node) (p p' : List Pending) (d d' : ℕ) (os : List Open) (more : List Node) → nodes' ≡ nodes → p' ≡ p → d' ≡ d → Holds nodes p d os more → Holds nodes' p' d' os more
holds_as nodes nodes' p p' d d' os more a b c h = record { nodes_are = a ∙ h.nodes_are; open_is = b ∙ h.open_is; deep_is = c ∙ h.deep_is }

pub wants : (nodes : List Node) (p : List Pending) (d : ℕ) (s : Step) (os : List Open) → s ≡ Ok (wanting os) → Holds nodes p d os [] → Comes nodes p d (Ok mode.Wanting) s
wants nodes p d s os e h = comes_ok nodes p d mode.Wanting s (wanting os) e h

pub has : (nodes : List Node) (p : List Pending) (d : ℕ) (m : Mode) (s : Step) (os : List Open) (a : Tree) → m ≡ mode.Having → s ≡ Ok (having os a) → Holds nodes p d os (code_of a) → Comes nodes p d (Ok m) s
has nodes p d m s os a is e h = subst (λ y. Comes nodes p d (Ok y) s) (sym is) (comes_ok nodes p d mode.Having s (having os a) e h)

pub misfit : (nodes : List Node) (p : List Pending) (d : ℕ) (s : Step) → s ≡ Err misfits.Syntax → Comes nodes p d (Err (error.Fault Syntax)) s
misfit nodes p d s e = comes_fault nodes p d s Syntax misfits.Syntax e refl

pub too_large : (nodes : List Node) (p : List Pending) (d : ℕ) (s : Step) → s ≡ Err misfits.TooLarge → Comes nodes p d (Err (error.Fault TooLarge)) s
too_large nodes p d s e = comes_fault nodes p d s TooLarge misfits.TooLarge e refl

-- ## The states

pub at_wanting : (nodes : List Node) (p : List Pending) (d : ℕ) (q : State) → Stands nodes p d mode.Wanting q → (os : List Open) × (q ≡ wanting os) × Holds nodes p d os []
at_wanting nodes p d (wanting os) h = (os, refl, h)
at_wanting nodes p d (naming f os) h = absurd h
at_wanting nodes p d (having os a) h = absurd h

pub at_naming : (nodes : List Node) (p : List Pending) (d : ℕ) (q : State) → Stands nodes p d mode.Naming q → (f : Function) × (os : List Open) × (q ≡ naming f os) × Holds nodes p d (calling f ∷ os) []
at_naming nodes p d (wanting os) h = absurd h
at_naming nodes p d (naming f os) h = (f, os, refl, h)
at_naming nodes p d (having os a) h = absurd h

pub at_having : (nodes : List Node) (p : List Pending) (d : ℕ) (q : State) → Stands nodes p d mode.Having q → (os : List Open) × (a : Tree) × (q ≡ having os a) × Holds nodes p d os (code_of a)
at_having nodes p d (wanting os) h = absurd h
at_having nodes p d (naming f os) h = absurd h
at_having nodes p d (having os a) h = (os, a, refl, h)

pub step_wanting : (os : List Open) (t : Token) → step 200 (wanting os) t ≡ want 200 os t (prefix_of t)
unfolding step
step_wanting os t = refl

pub step_naming : (f : Function) (os : List Open) (t : Token) → step 200 (naming f os) t ≡ named f os t
unfolding step
step_naming f os t = refl

pub step_having : (os : List Open) (a : Tree) (t : Token) → step 200 (having os a) t ≡ have 200 os a t (infix_of t)
unfolding step
step_having os a t = refl

-- ## Beginning and end

pub nothing_read : Holds [] [] 0 [] []
unfolding stack_of steps_before depth
nothing_read = record { nodes_are = refl; open_is = refl; deep_is = refl }

steps_none : (more : List Node) → steps_before [] ++ more ≡ more
unfolding steps_before
steps_none more = refl

stack_none : stack_of [] ≡ []
unfolding stack_of
stack_none = refl

pub finishes : (kept : ExprTree) (p : List Pending) (d : ℕ) (os : List Open) (a : Tree) → Holds kept.nodes.items p d os (code_of a) → [] ≡ p → Keeps (Ok kept) (told (only os a))
finishes kept p d [] a h e = h.nodes_are ∙ steps_none (code_of a)
finishes kept p d (o ∷ os) a h e = let none : o ∷ os ≡ [] = none_open (o ∷ os) (e ∙ h.open_is) in absurd (cc)

pub doesnt_finish : (nodes : List Node) (p : List Pending) (d : ℕ) (os : List Open) (a : Tree) → Holds nodes p d os (code_of a) → ([] ≡ p → Prim.⊥) → Keeps (Err (error.Fault Syntax)) (told (only os a))
doesnt_finish nodes p d [] a h e = absurd (e (sym (h.open_is ∙ stack_none)))
doesnt_finish nodes p d (o ∷ os) a h e = refl
