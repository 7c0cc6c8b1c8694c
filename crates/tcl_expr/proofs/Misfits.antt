-- The first token that doesn't fit: before it the tokens begin an expression, and with it they don't.
use Rattle.std.proofs.Common.{◌≡◌, ◌∙◌, sym, ap, refl, subst, ℕ, suc, ◌+◌, ◌<◌, ◌≤◌, nat_lt, Bool, true, false, cond, List, [], ◌∷◌, ◌++◌, Option, Some, None, Result, Ok, Err, arith, append_assoc, append-nil}
use Rattle.std.proofs.lemmas.Bool.{lt-ltb, ltb-true}
use Rattle.tcl_expr.specs.declared.operator.BinaryOperator.{BinaryOperator}
use Rattle.tcl_expr.specs.declared.operator.BinaryOperator.TheVariants as infix_operator
use Rattle.tcl_expr.specs.declared.operator.UnaryOperator.{UnaryOperator}
use Rattle.tcl_expr.specs.declared.operator.UnaryOperator.TheVariants as unary_operator
use Rattle.tcl_expr.specs.declared.operator.Function.{Function}
use Rattle.tcl_expr.specs.declared.grammar.Misfit.{Misfit}
use Rattle.tcl_expr.specs.declared.grammar.Misfit.TheVariants.{Syntax, TooDeep, TooLarge}
use Rattle.tcl_expr.specs.declared.token.Leaf.TheVariants.{Literal}
use Rattle.tcl_expr.specs.declared.token.Token.{Token}
use Rattle.tcl_expr.specs.declared.token.Token.TheVariants as token
use Rattle.tcl_expr.specs.Trees.{Tree, leaf, unary, binary, choice, first, also}
use Rattle.tcl_expr.specs.Grammar.{level, prefix_of, infix_of, takes_one, IsExpression, Begins}
use Rattle.tcl_expr.specs.Reading.{Open, prefixed, infixed, parenthesis, calling, calling_on, deciding, otherwise, State, wanting, naming, having, depth, takes, Held, settle, Step, want, have, between, named, lowest, close_at, comma_at, comma_after, colon_at, step, and_then, run, finish, finished, only, read_tokens}
use Rattle.tcl_expr.specs.Misfits.{is_lowest, IsMisfit, Fails, fitting, early, Kind}
use Rattle.tcl_expr.proofs.Completeness.{gives, read}
use Rattle.tcl_expr.proofs.Soundness.{expression}

-- ## What stands open can be closed

some_operand : Token
some_operand = token.Operand (Literal [])

closers : List Open → List Token
closers [] = []
closers (prefixed o ∷ os) = closers os
closers (infixed o a ∷ os) = closers os
closers (parenthesis ∷ os) = token.Close ∷ closers os
closers (calling f ∷ os) = token.Close ∷ closers os
closers (calling_on c ∷ os) = token.Close ∷ closers os
closers (deciding c ∷ os) = token.Colon ∷ some_operand ∷ closers os
closers (otherwise c a ∷ os) = closers os

-- they are none, or begin with what settles everything
data Closes : List Token → Type 0 where
  nothing : Closes []
  close : (s : List Token) → Closes (token.Close ∷ s)
  colon : (s : List Token) → Closes (token.Colon ∷ s)

closers_close : (os : List Open) → Closes (closers os)
unfolding closers
closers_close [] = nothing
closers_close (prefixed o ∷ os) = closers_close os
closers_close (infixed o a ∷ os) = closers_close os
closers_close (parenthesis ∷ os) = close (closers os)
closers_close (calling f ∷ os) = close (closers os)
closers_close (calling_on c ∷ os) = close (closers os)
closers_close (deciding c ∷ os) = colon (some_operand ∷ closers os)
closers_close (otherwise c a ∷ os) = closers_close os

-- what settles alike at the end ends alike
alike : (room : ℕ) (s : List Token) → Closes s → (gs os : List Open) (x a : Tree) → settle 16 gs x ≡ settle 16 os a →
    finished (run room (having gs x) s) ≡ finished (run room (having os a) s)
unfolding run step
alike room _ nothing gs os x a e = ap (λ (h : Held). only h.os h.tree) e
alike room _ (close s) gs os x a e = ap (λ (h : Held). finished (and_then (close_at h.os h.tree) (λ (q : State). run room q s))) e
alike room _ (colon s) gs os x a e = ap (λ (h : Held). finished (and_then (colon_at h.os h.tree) (λ (q : State). run room q s))) e

all_take : (o : BinaryOperator) → takes o 16 ≡ true
all_take infix_operator.Power = refl
all_take infix_operator.Multiply = refl
all_take infix_operator.Divide = refl
all_take infix_operator.Remainder = refl
all_take infix_operator.Add = refl
all_take infix_operator.Subtract = refl
all_take infix_operator.ShiftLeft = refl
all_take infix_operator.ShiftRight = refl
all_take infix_operator.Less = refl
all_take infix_operator.Greater = refl
all_take infix_operator.AtMost = refl
all_take infix_operator.AtLeast = refl
all_take infix_operator.Equal = refl
all_take infix_operator.Unequal = refl
all_take infix_operator.SameText = refl
all_take infix_operator.OtherText = refl
all_take infix_operator.Within = refl
all_take infix_operator.Without = refl
all_take infix_operator.BitAnd = refl
all_take infix_operator.BitXor = refl
all_take infix_operator.BitOr = refl
all_take infix_operator.And = refl
all_take infix_operator.Or = refl

closed : (room : ℕ) (os : List Open) (a : Tree) → (b : Tree) × (finished (run room (having os a) (closers os)) ≡ Ok b)
unfolding run step settle closers some_operand
closed room [] a = (a, refl)
closed room (prefixed o ∷ os) a = let ih = closed room os (unary o a) in
    (ih.0, alike room (closers os) (closers_close os) (prefixed o ∷ os) os a (unary o a) refl ∙ ih.1)
closed room (infixed o l ∷ os) a = let ih = closed room os (binary o l a) in
    (ih.0, alike room (closers os) (closers_close os) (infixed o l ∷ os) os a (binary o l a) (gives 16 o l os a (all_take o)) ∙ ih.1)
closed room (parenthesis ∷ os) a = closed room os a
closed room (calling f ∷ os) a = closed room os (first f a)
closed room (calling_on c ∷ os) a = closed room os (also c a)
closed room (deciding c ∷ os) a = let ih = closed room os (choice c a (leaf (Literal []))) in
    (ih.0, alike room (closers os) (closers_close os) (otherwise c a ∷ os) os (leaf (Literal [])) (choice c a (leaf (Literal []))) refl ∙ ih.1)
closed room (otherwise c l ∷ os) a = let ih = closed room os (choice c l a) in
    (ih.0, alike room (closers os) (closers_close os) (otherwise c l ∷ os) os a (choice c l a) refl ∙ ih.1)

ending : State → List Token
ending (wanting os) = some_operand ∷ closers os
ending (naming f os) = token.Open ∷ some_operand ∷ token.Close ∷ closers os
ending (having os a) = closers os

ended : (room : ℕ) (q : State) → (b : Tree) × (finished (run room q (ending q)) ≡ Ok b)
unfolding run step settle ending some_operand
ended room (wanting os) = closed room os (leaf (Literal []))
ended room (naming f os) = closed room os (first f (leaf (Literal [])))
ended room (having os a) = closed room os a

-- ## Runs in parts

append_through : (x : Step) (k m : State → Step) (h : State → Step) → ((p : State) → k p ≡ and_then (m p) h) → and_then x k ≡ and_then (and_then x m) h
append_through (Ok p) k m h e = e p
append_through (Err f) k m h e = refl

run-append : (room : ℕ) (q : State) (s u : List Token) → run room q (s ++ u) ≡ and_then (run room q s) (λ (p : State). run room p u)
unfolding run
run-append room q [] u = refl
run-append room q (t ∷ s) u = append_through (step room q t) (λ (p : State). run room p (s ++ u)) (λ (p : State). run room p s) (λ (p : State). run room p u) (λ p. run-append room p s u)

-- tokens that are read begin an expression
pub begins : (room : ℕ) (s : List Token) (q : State) → run room (wanting []) s ≡ Ok q → Begins room s
begins room s q e = let end = ended room q in
    (ending q, end.0, expression room end.0 (s ++ ending q) (ap finished (run-append room (wanting []) s (ending q) ∙ ap (λ (x : Step). and_then x (λ (p : State). run room p (ending q))) e) ∙ end.1))

-- and tokens that begin an expression are read
was_read : (x : Step) (k : State → Step) (a : Tree) → finished (and_then x k) ≡ Ok a → (q : State) × (x ≡ Ok q)
was_read (Ok q) k a e = (q, refl)
was_read (Err f) k a e = absurd cc

pub reads : (room : ℕ) (s : List Token) → Begins room s → (q : State) × (run room (wanting []) s ≡ Ok q)
reads room s b = was_read (run room (wanting []) s) (λ (p : State). run room p b.0) b.1 (ap finished (sym (run-append room (wanting []) s b.0)) ∙ read room b.1 (s ++ b.0) b.2)

-- ## What the room decides

-- a step that is made, or a fault of syntax
pub data Plain (x : Step) : Type 0 where
  made : (p : State) → x ≡ Ok p → Plain x
  wrong : x ≡ Err Syntax → Plain x

-- what a step may fail by, of a token
pub data Own (t : Token) (x : Step) : Type 0 where
  plain : is_lowest t ≡ false → Plain x → Own t x
  low : is_lowest t ≡ true → ((e : Misfit) → x ≡ Err e → e ≡ TooLarge) → Own t x

-- a step that doesn't look at the room, or that wants room and nothing else
pub data Shape (t : Token) (f : ℕ → Step) : Type 0 where
  fixed : (x : Step) → ((room : ℕ) → f room ≡ x) → Own t x → Shape t f
  roomy : (n : ℕ) (p : State) → ((room : ℕ) → f room ≡ cond (nat_lt n room) (Ok p) (Err TooDeep)) → is_lowest t ≡ false → Shape t f

lowest_shape : (x : List ℕ) (os : List Open) (e : Misfit) → lowest x os ≡ Err e → e ≡ TooLarge
lowest_shape x (prefixed unary_operator.Negate ∷ os) e h = absurd cc
lowest_shape x (prefixed unary_operator.Plus ∷ os) e h = cc
lowest_shape x (prefixed unary_operator.Complement ∷ os) e h = cc
lowest_shape x (prefixed unary_operator.Not ∷ os) e h = cc
lowest_shape x [] e h = cc
lowest_shape x (infixed o a ∷ os) e h = cc
lowest_shape x (parenthesis ∷ os) e h = cc
lowest_shape x (calling f ∷ os) e h = cc
lowest_shape x (calling_on c ∷ os) e h = cc
lowest_shape x (deciding c ∷ os) e h = cc
lowest_shape x (otherwise c a ∷ os) e h = cc

want_shape : (os : List Open) (t : Token) (x : Option UnaryOperator) → prefix_of t ≡ x → Shape t (λ room. want room os t x)
want_shape os token.Plus (Some o) h = roomy (depth os) (wanting (prefixed o ∷ os)) (λ room. refl) refl
want_shape os token.Plus None h = absurd cc
want_shape os token.Minus (Some o) h = roomy (depth os) (wanting (prefixed o ∷ os)) (λ room. refl) refl
want_shape os token.Minus None h = absurd cc
want_shape os (token.Prefix q) (Some o) h = roomy (depth os) (wanting (prefixed o ∷ os)) (λ room. refl) refl
want_shape os (token.Prefix q) None h = absurd cc
want_shape os (token.Operand x) (Some o) h = absurd cc
want_shape os (token.Operand x) None h = fixed (Ok (having os (leaf x))) (λ room. refl) (plain refl (made (having os (leaf x)) refl))
want_shape os (token.Lowest x) (Some o) h = absurd cc
want_shape os (token.Lowest x) None h = fixed (lowest x os) (λ room. refl) (low refl (lowest_shape x os))
want_shape os token.Open (Some o) h = absurd cc
want_shape os token.Open None h = roomy (depth os) (wanting (parenthesis ∷ os)) (λ room. refl) refl
want_shape os (token.Function f) (Some o) h = absurd cc
want_shape os (token.Function f) None h = roomy (depth os) (naming f os) (λ room. refl) refl
want_shape os (token.Infix q) (Some o) h = absurd cc
want_shape os (token.Infix q) None h = fixed (Err Syntax) (λ room. refl) (plain refl (wrong refl))
want_shape os token.Close (Some o) h = absurd cc
want_shape os token.Close None h = fixed (Err Syntax) (λ room. refl) (plain refl (wrong refl))
want_shape os token.Comma (Some o) h = absurd cc
want_shape os token.Comma None h = fixed (Err Syntax) (λ room. refl) (plain refl (wrong refl))
want_shape os token.Question (Some o) h = absurd cc
want_shape os token.Question None h = fixed (Err Syntax) (λ room. refl) (plain refl (wrong refl))
want_shape os token.Colon (Some o) h = absurd cc
want_shape os token.Colon None h = fixed (Err Syntax) (λ room. refl) (plain refl (wrong refl))

named_shape : (f : Function) (os : List Open) (t : Token) → Own t (named f os t)
named_shape f os token.Open = plain refl (made (wanting (calling f ∷ os)) refl)
named_shape f os (token.Lowest x) = low refl (λ e h. cc)
named_shape f os (token.Operand x) = plain refl (wrong refl)
named_shape f os token.Plus = plain refl (wrong refl)
named_shape f os token.Minus = plain refl (wrong refl)
named_shape f os (token.Prefix o) = plain refl (wrong refl)
named_shape f os (token.Infix o) = plain refl (wrong refl)
named_shape f os (token.Function g) = plain refl (wrong refl)
named_shape f os token.Close = plain refl (wrong refl)
named_shape f os token.Comma = plain refl (wrong refl)
named_shape f os token.Question = plain refl (wrong refl)
named_shape f os token.Colon = plain refl (wrong refl)

colon_shape : (os : List Open) (a : Tree) → Plain (colon_at os a)
colon_shape [] a = wrong refl
colon_shape (prefixed o ∷ os) a = wrong refl
colon_shape (infixed o l ∷ os) a = wrong refl
colon_shape (parenthesis ∷ os) a = wrong refl
colon_shape (calling f ∷ os) a = wrong refl
colon_shape (calling_on c ∷ os) a = wrong refl
colon_shape (deciding c ∷ os) a = made (wanting (otherwise c a ∷ os)) refl
colon_shape (otherwise c l ∷ os) a = wrong refl

close_shape : (os : List Open) (a : Tree) → Plain (close_at os a)
close_shape [] a = wrong refl
close_shape (prefixed o ∷ os) a = wrong refl
close_shape (infixed o l ∷ os) a = wrong refl
close_shape (parenthesis ∷ os) a = made (having os a) refl
close_shape (calling f ∷ os) a = made (having os (first f a)) refl
close_shape (calling_on c ∷ os) a = made (having os (also c a)) refl
close_shape (deciding c ∷ os) a = wrong refl
close_shape (otherwise c l ∷ os) a = wrong refl

after_shape : (b : Bool) (c : Tree) (os : List Open) → Plain (comma_after b c os)
after_shape true c os = wrong refl
after_shape false c os = made (wanting (calling_on c ∷ os)) refl

comma_shape : (os : List Open) (a : Tree) → Plain (comma_at os a)
comma_shape [] a = wrong refl
comma_shape (prefixed o ∷ os) a = wrong refl
comma_shape (infixed o l ∷ os) a = wrong refl
comma_shape (parenthesis ∷ os) a = wrong refl
comma_shape (calling f ∷ os) a = after_shape (takes_one f) (first f a) os
comma_shape (calling_on c ∷ os) a = made (wanting (calling_on (also c a) ∷ os)) refl
comma_shape (deciding c ∷ os) a = wrong refl
comma_shape (otherwise c l ∷ os) a = wrong refl

have_shape : (os : List Open) (a : Tree) (t : Token) (x : Option BinaryOperator) → infix_of t ≡ x → Shape t (λ room. have room os a t x)
have_shape os a token.Plus (Some o) h = fixed (between o (settle (level o) os a)) (λ room. refl) (plain refl (made (wanting (infixed o (settle (level o) os a).tree ∷ (settle (level o) os a).os)) refl))
have_shape os a token.Plus None h = absurd cc
have_shape os a token.Minus (Some o) h = fixed (between o (settle (level o) os a)) (λ room. refl) (plain refl (made (wanting (infixed o (settle (level o) os a).tree ∷ (settle (level o) os a).os)) refl))
have_shape os a token.Minus None h = absurd cc
have_shape os a (token.Infix q) (Some o) h = fixed (between o (settle (level o) os a)) (λ room. refl) (plain refl (made (wanting (infixed o (settle (level o) os a).tree ∷ (settle (level o) os a).os)) refl))
have_shape os a (token.Infix q) None h = absurd cc
have_shape os a token.Question (Some o) h = absurd cc
have_shape os a token.Question None h = roomy (depth (settle 15 os a).os) (wanting (deciding (settle 15 os a).tree ∷ (settle 15 os a).os)) (λ room. refl) refl
have_shape os a token.Colon (Some o) h = absurd cc
have_shape os a token.Colon None h = fixed (colon_at (settle 16 os a).os (settle 16 os a).tree) (λ room. refl) (plain refl (colon_shape (settle 16 os a).os (settle 16 os a).tree))
have_shape os a token.Close (Some o) h = absurd cc
have_shape os a token.Close None h = fixed (close_at (settle 16 os a).os (settle 16 os a).tree) (λ room. refl) (plain refl (close_shape (settle 16 os a).os (settle 16 os a).tree))
have_shape os a token.Comma (Some o) h = absurd cc
have_shape os a token.Comma None h = fixed (comma_at (settle 16 os a).os (settle 16 os a).tree) (λ room. refl) (plain refl (comma_shape (settle 16 os a).os (settle 16 os a).tree))
have_shape os a (token.Lowest x) (Some o) h = absurd cc
have_shape os a (token.Lowest x) None h = fixed (Err TooLarge) (λ room. refl) (low refl (λ e k. cc))
have_shape os a (token.Operand x) (Some o) h = absurd cc
have_shape os a (token.Operand x) None h = fixed (Err Syntax) (λ room. refl) (plain refl (wrong refl))
have_shape os a (token.Prefix q) (Some o) h = absurd cc
have_shape os a (token.Prefix q) None h = fixed (Err Syntax) (λ room. refl) (plain refl (wrong refl))
have_shape os a (token.Function f) (Some o) h = absurd cc
have_shape os a (token.Function f) None h = fixed (Err Syntax) (λ room. refl) (plain refl (wrong refl))
have_shape os a token.Open (Some o) h = absurd cc
have_shape os a token.Open None h = fixed (Err Syntax) (λ room. refl) (plain refl (wrong refl))

step_shape : (q : State) (t : Token) → Shape t (λ room. step room q t)
unfolding step
step_shape (wanting os) t = want_shape os t (prefix_of t) refl
step_shape (naming f os) t = fixed (named f os t) (λ room. refl) (named_shape f os t)
step_shape (having os a) t = have_shape os a t (infix_of t) refl

-- more room changes no step that was made
wider : (t : Token) (f : ℕ → Step) → Shape t f → (room big : ℕ) (p : State) → room ≤ big → f room ≡ Ok p → f big ≡ Ok p
wider t f (fixed x h n) room big p l e = h big ∙ sym (h room) ∙ e
wider t f (roomy n q h _) room big p l e = by_room (nat_lt n room) refl (sym (h room) ∙ e)
  where
    by_room : (b : Bool) → nat_lt n room ≡ b → cond b (Ok q) (Err TooDeep) ≡ Ok p → f big ≡ Ok p
    by_room true g c = let lt : n < room = ltb-true n room g in
        h big ∙ ap (λ (b : Bool). cond b (Ok q) (Err TooDeep)) (lt-ltb n big (omega arith)) ∙ c
    by_room false g c = absurd cc

wider_run : (room big : ℕ) → room ≤ big → (s : List Token) (q p : State) → run room q s ≡ Ok p → run big q s ≡ Ok p
unfolding run
wider_run room big l [] q p e = e
wider_run room big l (t ∷ s) q p e = onward (step room q t) refl e (λ r g. wider_run room big l s r p g)
  where
    onward : (x : Step) → step room q t ≡ x → and_then x (λ (r : State). run room r s) ≡ Ok p → ((r : State) → run room r s ≡ Ok p → run big r s ≡ Ok p) → run big q (t ∷ s) ≡ Ok p
    onward (Ok r) h g k = ap (λ (y : Step). and_then y (λ (r : State). run big r s)) (wider t (λ (n : ℕ). step n q t) (step_shape q t) room big r l h) ∙ k r g
    onward (Err f) h g k = absurd cc

-- what stands open is the same in every room
one_state : (room other : ℕ) (s : List Token) (q p r : State) → run room q s ≡ Ok p → run other q s ≡ Ok r → p ≡ r
one_state room other s q p r e f = let here = wider_run room (room + other) (omega arith) s q p e in
    let there = wider_run other (room + other) (omega arith) s q r f in
    let same : Ok p ≡ Ok r = sym here ∙ there in cc

-- ## The kind of a misfit

-- a step that fails tells its kind
misfit : (room : ℕ) (s : List Token) (q : State) (t : Token) (e : Misfit) → run room (wanting []) s ≡ Ok q → step room q t ≡ Err e → IsMisfit room s t e
unfolding run
misfit room s q t e r h = record {
  begins = begins room s q r;
  ends = λ b. no_more (reads room (s ++ t ∷ []) b);
  kind = of_shape (step_shape q t);
}
  where
    last : (big : ℕ) → run big (wanting []) s ≡ Ok q → run big (wanting []) (s ++ t ∷ []) ≡ and_then (step big q t) (λ (p : State). Ok p)
    last big k = run-append big (wanting []) s (t ∷ []) ∙ ap (λ (x : Step). and_then x (λ (p : State). run big p (t ∷ []))) k

    no_more : (p : State) × (run room (wanting []) (s ++ t ∷ []) ≡ Ok p) → Prim.⊥
    no_more (p, k) = let both : Ok p ≡ and_then (Err e) (λ (p : State). Ok p) = sym k ∙ last room r ∙ ap (λ (x : Step). and_then x (λ (p : State). Ok p)) h in absurd cc

    again : (other : ℕ) → (p : State) × (run other (wanting []) (s ++ t ∷ []) ≡ Ok p) → (p : State) × (step other q t ≡ Ok p)
    again other (p, k) =
        let was = was_run (run other (wanting []) s) (λ (x : State). run other x (t ∷ [])) p (sym (run-append other (wanting []) s (t ∷ [])) ∙ k) in
        let same : was.0 ≡ q = one_state other room s (wanting []) was.0 q was.1 r in
        was_run (step other q t) (λ (x : State). Ok x) p (sym (last other (was.1 ∙ ap Ok same)) ∙ k)
      where
        was_run : (x : Step) (m : State → Step) (p : State) → and_then x m ≡ Ok p → (y : State) × (x ≡ Ok y)
        was_run (Ok y) m p g = (y, refl)
        was_run (Err f) m p g = absurd cc

    of_plain : (x : Step) → ((big : ℕ) → step big q t ≡ x) → is_lowest t ≡ false → Plain x → Kind e s t
    of_plain x k l (made p g) = let both : Ok p ≡ Err e = sym g ∙ sym (k room) ∙ h in absurd cc
    of_plain x k l (wrong g) = let both : Err e ≡ Err Syntax = sym h ∙ k room ∙ g in
        let is : e ≡ Syntax = cc in
        subst (λ (f : Misfit). Kind f s t) (sym is) (l, λ other b. let p = again other (reads other (s ++ t ∷ []) b) in let no : Ok p.0 ≡ Err Syntax = sym p.1 ∙ k other ∙ g in absurd cc)

    of_shape : Shape t (λ big. step big q t) → Kind e s t
    of_shape (fixed x k (plain l o)) = of_plain x k l o
    of_shape (fixed x k (low l o)) = let is : e ≡ TooLarge = o e (sym (k room) ∙ h) in subst (λ (f : Misfit). Kind f s t) (sym is) l
    of_shape (roomy n p k l) = by_room (nat_lt n room) (sym (k room) ∙ h)
      where
        by_room : (b : Bool) → cond b (Ok p) (Err TooDeep) ≡ Err e → Kind e s t
        by_room true g = absurd cc
        by_room false g = let is : e ≡ TooDeep = cc in
            let far = wider_run room (room + suc n) (omega arith) s (wanting []) q r in
            let goes : step (room + suc n) q t ≡ Ok p = k (room + suc n) ∙ ap (λ (b : Bool). cond b (Ok p) (Err TooDeep)) (lt-ltb n (room + suc n) (omega arith)) in
            subst (λ (f : Misfit). Kind f s t) (sym is) (l, room + suc n, begins (room + suc n) (s ++ t ∷ []) p (last (room + suc n) far ∙ ap (λ (x : Step). and_then x (λ (y : State). Ok y)) goes))

-- a token has one kind of misfit
one_kind : (e f : Misfit) (s : List Token) (t : Token) → Kind e s t → Kind f s t → e ≡ f
one_kind TooLarge TooLarge s t k l = refl
one_kind TooDeep TooDeep s t k l = refl
one_kind Syntax Syntax s t k l = refl
one_kind TooLarge TooDeep s t k l = let no : true ≡ false = sym k ∙ l.0 in absurd cc
one_kind TooLarge Syntax s t k l = let no : true ≡ false = sym k ∙ l.0 in absurd cc
one_kind TooDeep TooLarge s t k l = let no : true ≡ false = sym l ∙ k.0 in absurd cc
one_kind Syntax TooLarge s t k l = let no : true ≡ false = sym l ∙ k.0 in absurd cc
one_kind TooDeep Syntax s t k l = absurd (l.1 k.1 k.2)
one_kind Syntax TooDeep s t k l = absurd (k.1 l.1 l.2)

only_syntax : (os : List Open) (a : Tree) (e : Misfit) → only os a ≡ Err e → e ≡ Syntax
only_syntax [] a e h = absurd cc
only_syntax (o ∷ os) a e h = cc

finish_syntax : (q : State) (e : Misfit) → finish q ≡ Err e → e ≡ Syntax
finish_syntax (wanting os) e h = cc
finish_syntax (naming f os) e h = cc
finish_syntax (having os a) e h = only_syntax (settle 16 os a).os (settle 16 os a).tree e h

find : (room : ℕ) (s front : List Token) (q : State) (e : Misfit) → run room (wanting []) front ≡ Ok q → finished (run room q s) ≡ Err e → Fails room (front ++ s) e
unfolding run
find room [] front q e r h =
    let is : e ≡ Syntax = finish_syntax q e h in
    subst (λ (x : List Token). Fails room x e) (sym (append-nil front)) (subst (Fails room front) (sym is) (early front (begins room front q r) (λ a d. let both : Ok a ≡ Err e = sym (read room a front d) ∙ ap finished r ∙ h in absurd cc)))
find room (t ∷ s) front q e r h = by_step (step room q t) refl h (λ p k g. subst (λ (x : List Token). Fails room x e) (append_assoc front (t ∷ []) s)
    (find room s (front ++ t ∷ []) p e (run-append room (wanting []) front (t ∷ []) ∙ ap (λ (x : Step). and_then x (λ (y : State). run room y (t ∷ []))) r ∙ ap (λ (x : Step). and_then x (λ (y : State). Ok y)) k) g))
  where
    by_step : (x : Step) → step room q t ≡ x → finished (and_then x (λ (p : State). run room p s)) ≡ Err e → ((p : State) → step room q t ≡ Ok p → finished (run room p s) ≡ Err e → Fails room (front ++ t ∷ s) e) → Fails room (front ++ t ∷ s) e
    by_step (Ok p) k g go = go p k g
    by_step (Err f) k g go = let is : f ≡ e = cc in fitting front s t e (misfit room front q t e r (k ∙ ap Err is))

pub fails : (room : ℕ) (s : List Token) (e : Misfit) → read_tokens room s ≡ Err e → Fails room s e
unfolding run
fails room s e h = find room s [] (wanting []) e refl h

fitting_fails : (room : ℕ) (s u : List Token) (t : Token) (e : Misfit) → IsMisfit room s t e → read_tokens room (s ++ t ∷ u) ≡ Err e
unfolding run
fitting_fails room s u t e m = by_step (step room at.0 t) refl
  where
    at : (q : State) × (run room (wanting []) s ≡ Ok q)
    at = reads room s m.begins

    whole_run : read_tokens room (s ++ t ∷ u) ≡ finished (and_then (step room at.0 t) (λ (p : State). run room p u))
    whole_run = ap finished (run-append room (wanting []) s (t ∷ u) ∙ ap (λ (x : Step). and_then x (λ (p : State). run room p (t ∷ u))) at.1)

    by_step : (x : Step) → step room at.0 t ≡ x → read_tokens room (s ++ t ∷ u) ≡ Err e
    by_step (Ok p) k = absurd (m.ends (begins room (s ++ t ∷ []) p (run-append room (wanting []) s (t ∷ []) ∙ ap (λ (x : Step). and_then x (λ (y : State). run room y (t ∷ []))) at.1 ∙ ap (λ (x : Step). and_then x (λ (y : State). Ok y)) k)))
    by_step (Err f) k = let is : f ≡ e = one_kind f e s t (misfit room s at.0 t f at.1 k).kind m.kind in
        whole_run ∙ ap (λ (x : Step). finished (and_then x (λ (p : State). run room p u))) k ∙ ap Err is

early_fails : (room : ℕ) (s : List Token) → Begins room s → ((a : Tree) → IsExpression room a s → Prim.⊥) → read_tokens room s ≡ Err Syntax
early_fails room s b n = let at = reads room s b in by_end (finish at.0) at refl
  where
    by_end : (x : Result Tree Misfit) → (at : (q : State) × (run room (wanting []) s ≡ Ok q)) → finish at.0 ≡ x → read_tokens room s ≡ Err Syntax
    by_end (Ok a) at k = absurd (n a (expression room a s (ap finished at.1 ∙ k)))
    by_end (Err f) at k = ap finished at.1 ∙ k ∙ ap Err (finish_syntax at.0 f k)

pub faults : {room : ℕ} {s : List Token} {e : Misfit} → Fails room s e → read_tokens room s ≡ Err e
faults {room} (fitting s u t e m) = fitting_fails room s u t e m
faults {room} (early s b n) = early_fails room s b n
