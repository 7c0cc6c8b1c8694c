-- What the parser keeps, as what stands open.
use Rattle.std.proofs.Common.{◌≡◌, ◌∙◌, sym, ap, subst, refl, ℕ, ◌-◌, Bool, true, false, cond, nat_lt, List, [], ◌∷◌, ◌++◌, length, Option, Some, None, arith, append_assoc, length-append, MatchOption, option_to_list}
use Rattle.std.proofs.lemmas.List.{same_from_push, append-nil}
use Rattle.tcl_expr.specs.declared.operator.BinaryOperator.{BinaryOperator}
use Rattle.tcl_expr.specs.Trees.{Tree, unary, binary, choice}
use Rattle.tcl_expr.specs.Reading.{Open, prefixed, infixed, parenthesis, calling, calling_on, deciding, otherwise, depth, weight, takes, settle, Held}
use Rattle.tcl_expr.specs.declared.tree.Node.{Node}
use Rattle.tcl_expr.specs.declared.tree.Node.TheVariants as node
use Rattle.tcl_expr.specs.declared.parser.Pending.{Pending}
use Rattle.tcl_expr.specs.Code.{mark, before, code_of}
use Rattle.tcl_expr.specs.Parsing.{pending_of, stack_of, steps_of, steps_before, Holds, closing, weight_of, Settles}

-- ## Stacks

stack_nil : stack_of [] ≡ []
unfolding stack_of
stack_nil = refl

pub stack_cons : (o : Open) (os : List Open) → stack_of (o ∷ os) ≡ stack_of os ++ pending_of o ∷ []
unfolding stack_of
stack_cons o os = refl

steps_nil : steps_before [] ≡ []
unfolding steps_before
steps_nil = refl

pub steps_cons : (o : Open) (os : List Open) → steps_before (o ∷ os) ≡ steps_before os ++ steps_of o
unfolding steps_before
steps_cons o os = refl

pub depth_cons : (o : Open) (os : List Open) → depth (o ∷ os) ≡ weight o (depth os)
unfolding depth
depth_cons o os = refl

-- what stands open last
pub record Last (xs : List Pending) (x : Pending) (os : List Open) : Type 0 where
  pub o : Open
  pub rest : List Open
  pub whole : os ≡ o ∷ rest
  pub below : xs ≡ stack_of rest
  pub top : x ≡ pending_of o

pub last_open : (xs : List Pending) (x : Pending) (os : List Open) → xs ++ x ∷ [] ≡ stack_of os → Last xs x os
last_open xs x [] h = absurd (omega (arith, ap length (h ∙ stack_nil), length-append xs (x ∷ [])))
last_open xs x (o ∷ os) h = let same = same_from_push xs (stack_of os) x (pending_of o) (h ∙ stack_cons o os) in record { o = o; rest = os; whole = refl; below = same.0; top = same.1 }

pub none_open : (os : List Open) → [] ≡ stack_of os → os ≡ []
none_open [] h = refl
none_open (o ∷ os) h = absurd (omega (arith, ap length (h ∙ stack_cons o os), length-append (stack_of os) (pending_of o ∷ [])))

-- ## Settling

settle_nil : (n : ℕ) (a : Tree) → settle n [] a ≡ record { os = []; tree = a }
unfolding settle
settle_nil n a = refl

-- what ends where an operator of a level follows
pub record Closes (n : ℕ) (o : Open) (os : List Open) (a : Tree) (nd : Node) : Type 0 where
  pub tree : Tree
  pub code : (steps_of o ++ code_of a) ++ nd ∷ [] ≡ code_of tree
  pub same : settle n os tree ≡ settle n (o ∷ os) a

code_unary : (u : _) (a : Tree) → code_of a ++ node.Unary u ∷ [] ≡ code_of (unary u a)
unfolding before
code_unary u a = refl

code_binary : (q : BinaryOperator) (l a : Tree) → ((code_of l ++ mark q) ++ code_of a) ++ node.Binary q ∷ [] ≡ code_of (binary q l a)
unfolding before
code_binary q l a = refl

code_choice : (c l a : Tree) → ((((code_of c ++ node.Question ∷ []) ++ code_of l) ++ node.Colon ∷ []) ++ code_of a) ++ node.Choice ∷ [] ≡ code_of (choice c l a)
unfolding before
code_choice c l a = refl

settle_prefixed : (n : ℕ) (u : _) (os : List Open) (a : Tree) → settle n os (unary u a) ≡ settle n (prefixed u ∷ os) a
unfolding settle
settle_prefixed n u os a = refl

settle_infixed : (n : ℕ) (q : BinaryOperator) (l : Tree) (os : List Open) (a : Tree) → settle n (infixed q l ∷ os) a ≡ cond (takes q n) (settle n os (binary q l a)) (record { os = infixed q l ∷ os; tree = a })
unfolding settle
settle_infixed n q l os a = refl

settle_otherwise : (n : ℕ) (c l : Tree) (os : List Open) (a : Tree) → settle n (otherwise c l ∷ os) a ≡ cond (nat_lt 15 n) (settle n os (choice c l a)) (record { os = otherwise c l ∷ os; tree = a })
unfolding settle
settle_otherwise n c l os a = refl

infixed_closes : (n : ℕ) (q : BinaryOperator) (l : Tree) (os : List Open) (a : Tree) (nd : Node) (t : Bool) → takes q n ≡ t → cond t (Some (node.Binary q)) None ≡ Some nd → Closes n (infixed q l) os a nd
infixed_closes n q l os a nd true e h = record {
  tree = binary q l a;
  code = (let is : nd ≡ node.Binary q = cc in ap (λ x. ((code_of l ++ mark q) ++ code_of a) ++ x ∷ []) is) ∙ code_binary q l a;
  same = sym (settle_infixed n q l os a ∙ ap (λ b. cond b (settle n os (binary q l a)) (record { os = infixed q l ∷ os; tree = a })) e);
}
infixed_closes n q l os a nd false e h = absurd (cc)

otherwise_closes : (n : ℕ) (c l : Tree) (os : List Open) (a : Tree) (nd : Node) (t : Bool) → nat_lt 15 n ≡ t → cond t (Some node.Choice) None ≡ Some nd → Closes n (otherwise c l) os a nd
otherwise_closes n c l os a nd true e h = record {
  tree = choice c l a;
  code = (let is : nd ≡ node.Choice = cc in ap (λ x. ((((code_of c ++ node.Question ∷ []) ++ code_of l) ++ node.Colon ∷ []) ++ code_of a) ++ x ∷ []) is) ∙ code_choice c l a;
  same = sym (settle_otherwise n c l os a ∙ ap (λ b. cond b (settle n os (choice c l a)) (record { os = otherwise c l ∷ os; tree = a })) e);
}
otherwise_closes n c l os a nd false e h = absurd (cc)

closes : (n : ℕ) (o : Open) (os : List Open) (a : Tree) (nd : Node) → closing (pending_of o) n ≡ Some nd → Closes n o os a nd
closes n (prefixed u) os a nd h = record {
  tree = unary u a;
  code = (let is : nd ≡ node.Unary u = cc in ap (λ x. code_of a ++ x ∷ []) is) ∙ code_unary u a;
  same = settle_prefixed n u os a;
}
closes n (infixed q l) os a nd h = infixed_closes n q l os a nd (takes q n) refl h
closes n (otherwise c l) os a nd h = otherwise_closes n c l os a nd (nat_lt 15 n) refl h
closes n parenthesis os a nd h = absurd (cc)
closes n (calling f) os a nd h = absurd (cc)
closes n (calling_on call) os a nd h = absurd (cc)
closes n (deciding c) os a nd h = absurd (cc)

infixed_stays : (n : ℕ) (q : BinaryOperator) (l : Tree) (os : List Open) (a : Tree) (t : Bool) → takes q n ≡ t → ◌≡◌ {A = Option Node} (cond t (Some (node.Binary q)) None) None → settle n (infixed q l ∷ os) a ≡ record { os = infixed q l ∷ os; tree = a }
infixed_stays n q l os a true e h = absurd (cc)
infixed_stays n q l os a false e h = settle_infixed n q l os a ∙ ap (λ b. cond b (settle n os (binary q l a)) (record { os = infixed q l ∷ os; tree = a })) e

otherwise_stays : (n : ℕ) (c l : Tree) (os : List Open) (a : Tree) (t : Bool) → nat_lt 15 n ≡ t → ◌≡◌ {A = Option Node} (cond t (Some node.Choice) None) None → settle n (otherwise c l ∷ os) a ≡ record { os = otherwise c l ∷ os; tree = a }
otherwise_stays n c l os a true e h = absurd (cc)
otherwise_stays n c l os a false e h = settle_otherwise n c l os a ∙ ap (λ b. cond b (settle n os (choice c l a)) (record { os = otherwise c l ∷ os; tree = a })) e

stays : (n : ℕ) (o : Open) (os : List Open) (a : Tree) → closing (pending_of o) n ≡ None → settle n (o ∷ os) a ≡ record { os = o ∷ os; tree = a }
unfolding settle
stays n (prefixed u) os a h = absurd (cc)
stays n (infixed q l) os a h = infixed_stays n q l os a (takes q n) refl h
stays n (otherwise c l) os a h = otherwise_stays n c l os a (nat_lt 15 n) refl h
stays n parenthesis os a h = refl
stays n (calling f) os a h = refl
stays n (calling_on call) os a h = refl
stays n (deciding c) os a h = refl

-- ## A turn of the loop

lighter : (o : Open) (d : ℕ) → weight o d - weight_of (pending_of o) ≡ d
lighter (infixed q l) d = omega arith
lighter (prefixed u) d = omega arith
lighter parenthesis d = omega arith
lighter (calling f) d = omega arith
lighter (calling_on call) d = omega arith
lighter (deciding c) d = omega arith
lighter (otherwise c l) d = omega arith

pub settles_none : (n : ℕ) (nodes : List Node) (d : ℕ) → Settles false n nodes [] d nodes [] d
settles_none n nodes d = (refl, refl, refl, λ os a h. let none = none_open os h.open_is in subst (λ x. settle n x a ≡ record { os = x; tree = a }) (sym none) (settle_nil n a))

pub settles_not : (n : ℕ) (nodes : List Node) (p xs : List Pending) (x : Pending) (d : ℕ) → p ≡ xs ++ x ∷ [] → closing x n ≡ None → Settles false n nodes p d nodes p d
settles_not n nodes p xs x d is h = (
  refl,
  refl,
  refl,
  λ os a holds.
      let l = last_open xs x os (sym is ∙ holds.open_is) in
      subst (λ y. settle n y a ≡ record { os = y; tree = a }) (sym l.whole) (stays n l.o l.rest a (ap (λ y. closing y n) (sym l.top) ∙ h)),
)

pub settles_one : (n : ℕ) (nodes : List Node) (p xs : List Pending) (x : Pending) (d : ℕ) (nd : Node) → p ≡ xs ++ x ∷ [] → closing x n ≡ Some nd → Settles true n nodes p d (nodes ++ nd ∷ []) xs (d - weight_of x)
settles_one n nodes p xs x d nd is h = λ os a holds.
    let l = last_open xs x os (sym is ∙ holds.open_is) in
    let c = closes n l.o l.rest a nd (ap (λ y. closing y n) (sym l.top) ∙ h) in
    let were : nodes ≡ (steps_before l.rest ++ steps_of l.o) ++ code_of a = holds.nodes_are ∙ ap (λ y. steps_before y ++ code_of a) l.whole ∙ ap (λ y. y ++ code_of a) (steps_cons l.o l.rest) in (
      l.rest,
      c.tree,
      record {
        nodes_are = ap (λ y. y ++ nd ∷ []) were ∙ ap (λ y. y ++ nd ∷ []) (append_assoc (steps_before l.rest) (steps_of l.o) (code_of a)) ∙ append_assoc (steps_before l.rest) (steps_of l.o ++ code_of a) (nd ∷ []) ∙ ap (λ y. steps_before l.rest ++ y) c.code;
        open_is = l.below;
        deep_is = ap (λ y. y - weight_of x) (holds.deep_is ∙ ap depth l.whole ∙ depth_cons l.o l.rest) ∙ ap (λ y. weight l.o (depth l.rest) - weight_of y) l.top ∙ lighter l.o (depth l.rest);
      },
      c.same ∙ ap (λ y. settle n y a) (sym l.whole),
    )

-- ## As the code goes about it

pub popped_none : {X : Type 0} (p q : List X) (r : Option X) → p ≡ q ++ option_to_list r → r ≡ None → p ≡ q
popped_none p q r h e = h ∙ ap (λ y. q ++ option_to_list y) e ∙ append-nil q

pub popped_some : {X : Type 0} (p q : List X) (r : Option X) (x : X) → p ≡ q ++ option_to_list r → r ≡ Some x → p ≡ q ++ x ∷ []
popped_some p q r x h e = h ∙ ap (λ y. q ++ option_to_list y) e

pub on_none : {X : Type 0} (r : Option X) (A : Type 0) (B : X → Type 0) → MatchOption r A B → r ≡ None → A
on_none None A B h e = h
on_none (Some x) A B h e = absurd (cc)

pub empty : {X : Type 0} (xs : List X) → length xs ≡ 0 → [] ≡ xs
empty [] h = refl
empty (x ∷ xs) h = absurd (omega arith)

pub none_settle : (n : ℕ) (nodes : List Node) (p q : List Pending) (d : ℕ) → q ≡ p → length p ≡ 0 → Settles false n nodes p d nodes q d
none_settle n nodes p q d same h = (refl, same, refl, (subst (λ y. Settles false n nodes y d nodes y d) (empty p h) (settles_none n nodes d)).3)

pub not_settle : (n : ℕ) (nodes : List Node) (p q xs : List Pending) (x : Pending) (d : ℕ) (r : Option Node) → p ≡ xs ++ x ∷ [] → q ≡ xs ++ x ∷ [] → r ≡ closing x n → r ≡ None → Settles false n nodes p d nodes q d
not_settle n nodes p q xs x d r is back c h = (refl, back ∙ sym is, refl, (settles_not n nodes p xs x d is (sym c ∙ h)).3)

pub one_settles : (n : ℕ) (nodes more : List Node) (p xs : List Pending) (x : Pending) (d e : ℕ) (r : Option Node) (nd : Node) → p ≡ xs ++ x ∷ [] → r ≡ closing x n → r ≡ Some nd → more ≡ nodes ++ nd ∷ [] → e ≡ d - weight_of x → Settles true n nodes p d more xs e
one_settles n nodes more p xs x d e r nd is c h new less =
    subst (λ y. Settles true n nodes p d y xs e) (sym new) (subst (λ y. Settles true n nodes p d (nodes ++ nd ∷ []) xs y) (sym less) (settles_one n nodes p xs x d nd is (sym c ∙ h)))

-- what stands open and the operand settle as others do
abbrev pub Reaches : ℕ → List Node → List Pending → ℕ → List Open → Tree → Type 0
Reaches n nodes p d os a = (os' : List Open) × (a' : Tree) × Holds nodes p d os' (code_of a') × (settle n os' a' ≡ settle n os a)

pub settled : (n : ℕ) (nodes nodes' : List Node) (p p' : List Pending) (d d' : ℕ) (os : List Open) (a : Tree) → Reaches n nodes p d os a → Settles false n nodes p d nodes' p' d' → Holds nodes' p' d' (settle n os a).os (code_of (settle n os a).tree)
settled n nodes nodes' p p' d d' os a r s =
    let is : settle n os a ≡ record { os = r.0; tree = r.1 } = sym r.3 ∙ s.3 r.0 r.1 r.2 in
    subst (λ (h : Held). Holds nodes' p' d' h.os (code_of h.tree)) (sym is)
    (subst (λ x. Holds x p' d' r.0 (code_of r.1)) (sym s.0) (subst (λ x. Holds nodes x d' r.0 (code_of r.1)) (sym s.1) (subst (λ x. Holds nodes p x r.0 (code_of r.1)) (sym s.2) r.2)))

pub goes_on : (n : ℕ) (nodes nodes' : List Node) (p p' : List Pending) (d d' : ℕ) (os : List Open) (a : Tree) → Reaches n nodes p d os a → Settles true n nodes p d nodes' p' d' → Reaches n nodes' p' d' os a
goes_on n nodes nodes' p p' d d' os a r s = let t = s r.0 r.1 r.2 in (t.0, t.1, t.2, t.3 ∙ r.3)

-- nothing was there to take
pub emptied : {X : Type 0} (p : List X) (n m : ℕ) (r : Option X) (B : X → Type 0) → n ≡ length p → MatchOption r ((n ≡ 0) × (m ≡ 0)) B → r ≡ None → [] ≡ p
emptied p n m r B is h e = empty p (sym is ∙ (on_none r ((n ≡ 0) × (m ≡ 0)) B h e).0)
