-- Each expression is read as its tree.
use Rattle.std.proofs.Common.{◌≡◌, ◌∙◌, sym, ap, refl, ℕ, zero, suc, ◌+◌, ◌<◌, ◌≤◌, nat_le, Bool, true, false, cond, List, [], ◌∷◌, Some, Ok, Err, arith}
use Rattle.std.proofs.lemmas.Bool.{lt-ltb, le-ltb, le-leb, lt-leb}
use Rattle.std.proofs.Math.Nat.{eq-or-lt_of_le}
use Rattle.std.proofs.Common.{inl, inr}
use Rattle.tcl_expr.specs.declared.operator.BinaryOperator.{BinaryOperator}
use Rattle.tcl_expr.specs.declared.operator.BinaryOperator.TheVariants as infix_operator
use Rattle.tcl_expr.specs.declared.operator.UnaryOperator.TheVariants as unary_operator
use Rattle.tcl_expr.specs.declared.operator.Function.{Function}
use Rattle.tcl_expr.specs.declared.grammar.Misfit.TheVariants.{TooDeep}
use Rattle.tcl_expr.specs.declared.token.Token.{Token}
use Rattle.tcl_expr.specs.declared.token.Token.TheVariants as token
use Rattle.tcl_expr.specs.Trees.{Tree, leaf, binary, choice, first}
use Rattle.tcl_expr.specs.Grammar.{level, infix_of, is_complete, Kind, upto, arguments, Spells, operand, lowest, before, parenthesized, called, first_argument, next_argument, left, right, chosen, tighter, IsExpression}
use Rattle.tcl_expr.specs.Reading.{Open, prefixed, infixed, parenthesis, calling, calling_on, deciding, otherwise, State, wanting, naming, having, depth, takes, Held, settle, Step, deeper, name, want, have, between, question, close_at, comma_at, comma_after, colon_at, step, and_then, run, finished, only, read_tokens}

abbrev pub held : List Open → Tree → Held
held os a = record { os = os; tree = a }

-- where an operator of level m may follow an operand of level n
pub record Follows (n m : ℕ) : Type 0 where
  pub least : n ≤ m
  pub two : 2 ≤ m
  pub power : m ≡ 2 → n ≤ 1
  pub choice : m ≡ 15 → n ≤ 14
  pub end : m ≡ 16 → n ≤ 15

-- an operand of level n stands by itself there, until an operator follows that binds less
abbrev pub Ready : ℕ → List Open → Type 0
Ready n os = (m : ℕ) → 2 ≤ m → m ≤ n → (a : Tree) → settle m os a ≡ held os a

-- the operand has come
pub record Comes (room : ℕ) (os : List Open) (n : ℕ) (a : Tree) (s rest : List Token) : Type 0 where
  pub gs : List Open
  pub t : Tree
  pub goes : run room (wanting os) s ≡ run room (having gs t) rest
  pub same : (m : ℕ) → Follows n m → settle m gs t ≡ settle m os a

-- the function with its arguments has come, but for the close parenthesis
pub record Calls (room : ℕ) (os : List Open) (call : Tree) (s rest : List Token) : Type 0 where
  pub gs : List Open
  pub t : Tree
  pub o : Open
  pub x : Tree
  pub goes : run room (wanting os) s ≡ run room (having gs t) rest
  pub same : settle 16 gs t ≡ held (o ∷ os) x
  pub closes : close_at (o ∷ os) x ≡ Ok (having os call)
  pub commas : is_complete call ≡ false → comma_at (o ∷ os) x ≡ Ok (wanting (calling_on call ∷ os))

abbrev pub Reads : ℕ → ℕ → List Open → Kind → Tree → List Token → List Token → Type 0
Reads room r os (upto n) a s rest = depth os + r ≤ room → Ready n os → Comes room os n a s rest
Reads room r os arguments call s rest = suc (depth os + r) ≤ room → Calls room os call s rest

-- ## Steps

pub stepped : (room : ℕ) (q q' : State) (t : Token) (s : List Token) → step room q t ≡ Ok q' → run room q (t ∷ s) ≡ run room q' s
unfolding run
stepped room q q' t s e = ap (λ (x : Step). and_then x (λ (p : State). run room p s)) e

deep : (room : ℕ) (o : Open) (os : List Open) → depth os < room → deeper room o os ≡ Ok (wanting (o ∷ os))
deep room o os h = ap (λ (b : Bool). cond b (Ok (wanting (o ∷ os))) (Err TooDeep)) (lt-ltb (depth os) room h)

named : (room : ℕ) (f : Function) (os : List Open) → depth os < room → name room f os ≡ Ok (naming f os)
named room f os h = ap (λ (b : Bool). cond b (Ok (naming f os)) (Err TooDeep)) (lt-ltb (depth os) room h)

level_most : (o : BinaryOperator) → level o ≤ 14
level_most infix_operator.Power = omega arith
level_most infix_operator.Multiply = omega arith
level_most infix_operator.Divide = omega arith
level_most infix_operator.Remainder = omega arith
level_most infix_operator.Add = omega arith
level_most infix_operator.Subtract = omega arith
level_most infix_operator.ShiftLeft = omega arith
level_most infix_operator.ShiftRight = omega arith
level_most infix_operator.Less = omega arith
level_most infix_operator.Greater = omega arith
level_most infix_operator.AtMost = omega arith
level_most infix_operator.AtLeast = omega arith
level_most infix_operator.Equal = omega arith
level_most infix_operator.Unequal = omega arith
level_most infix_operator.SameText = omega arith
level_most infix_operator.OtherText = omega arith
level_most infix_operator.Within = omega arith
level_most infix_operator.Without = omega arith
level_most infix_operator.BitAnd = omega arith
level_most infix_operator.BitXor = omega arith
level_most infix_operator.BitOr = omega arith
level_most infix_operator.And = omega arith
level_most infix_operator.Or = omega arith

-- past `**`, an operator takes its second operand where one of its level or of one that binds less follows
pub takes_by_level : (o : BinaryOperator) (m : ℕ) → 3 ≤ level o → takes o m ≡ nat_le (level o) m
takes_by_level infix_operator.Power m h = absurd (omega arith)
takes_by_level infix_operator.Multiply m h = refl
takes_by_level infix_operator.Divide m h = refl
takes_by_level infix_operator.Remainder m h = refl
takes_by_level infix_operator.Add m h = refl
takes_by_level infix_operator.Subtract m h = refl
takes_by_level infix_operator.ShiftLeft m h = refl
takes_by_level infix_operator.ShiftRight m h = refl
takes_by_level infix_operator.Less m h = refl
takes_by_level infix_operator.Greater m h = refl
takes_by_level infix_operator.AtMost m h = refl
takes_by_level infix_operator.AtLeast m h = refl
takes_by_level infix_operator.Equal m h = refl
takes_by_level infix_operator.Unequal m h = refl
takes_by_level infix_operator.SameText m h = refl
takes_by_level infix_operator.OtherText m h = refl
takes_by_level infix_operator.Within m h = refl
takes_by_level infix_operator.Without m h = refl
takes_by_level infix_operator.BitAnd m h = refl
takes_by_level infix_operator.BitXor m h = refl
takes_by_level infix_operator.BitOr m h = refl
takes_by_level infix_operator.And m h = refl
takes_by_level infix_operator.Or m h = refl

-- what an operator that stands open makes of an operand behind it
pub keeps : (m : ℕ) (o : BinaryOperator) (l : Tree) (os : List Open) (a : Tree) → takes o m ≡ false → settle m (infixed o l ∷ os) a ≡ held (infixed o l ∷ os) a
unfolding settle
keeps m o l os a e = ap (λ (b : Bool). cond b (settle m os (binary o l a)) (held (infixed o l ∷ os) a)) e

pub gives : (m : ℕ) (o : BinaryOperator) (l : Tree) (os : List Open) (a : Tree) → takes o m ≡ true → settle m (infixed o l ∷ os) a ≡ settle m os (binary o l a)
unfolding settle
gives m o l os a e = ap (λ (b : Bool). cond b (settle m os (binary o l a)) (held (infixed o l ∷ os) a)) e

pub keeps_choice : (m : ℕ) (c l : Tree) (os : List Open) (a : Tree) → m ≤ 15 → settle m (otherwise c l ∷ os) a ≡ held (otherwise c l ∷ os) a
unfolding settle
keeps_choice m c l os a h = ap (λ (b : Bool). cond b (settle m os (choice c l a)) (held (otherwise c l ∷ os) a)) (le-ltb 15 m h)

pub gives_choice : (m : ℕ) (c l : Tree) (os : List Open) (a : Tree) → 16 ≤ m → settle m (otherwise c l ∷ os) a ≡ settle m os (choice c l a)
unfolding settle
gives_choice m c l os a h = ap (λ (b : Bool). cond b (settle m os (choice c l a)) (held (otherwise c l ∷ os) a)) (lt-ltb 15 m h)

pub put_between : (room : ℕ) (t : Token) (o : BinaryOperator) (gs os : List Open) (x a : Tree) → infix_of t ≡ Some o → settle (level o) gs x ≡ held os a →
    step room (having gs x) t ≡ Ok (wanting (infixed o a ∷ os))
unfolding step
put_between room t o gs os x a e h = ap (have room gs x t) e ∙ ap (between o) h

-- ## Each rule

no_level : (os : List Open) → Ready 1 os
no_level os m h k a = absurd (omega arith)

fewer : (n : ℕ) (os : List Open) → Ready (suc n) os → Ready n os
fewer n os r m h k a = r m h (omega arith) a

pub complete : {k : Kind} {r : ℕ} {a : Tree} {s rest : List Token} → Spells k r a s rest → (room : ℕ) (os : List Open) → Reads room r os k a s rest
unfolding run step settle depth
complete (operand r x rest) room os = λ h ready. record { gs = os; t = leaf x; goes = refl; same = λ m f. refl }
complete (lowest r t x rest e) room os = λ h ready. record {
  gs = os;
  t = _;
  goes = stepped room (wanting os) (wanting (prefixed unary_operator.Negate ∷ os)) t (token.Lowest x ∷ rest) (ap (want room os t) e ∙ deep room (prefixed unary_operator.Negate) os (omega arith));
  same = λ m f. refl;
}
complete (before r t o a s rest e d) room os = λ h ready.
    let ih = complete d room (prefixed o ∷ os) (omega arith) (no_level (prefixed o ∷ os)) in record {
      gs = ih.gs;
      t = ih.t;
      goes = stepped room (wanting os) (wanting (prefixed o ∷ os)) t s (ap (want room os t) e ∙ deep room (prefixed o) os (omega arith)) ∙ ih.goes;
      same = λ m f. ih.same m f;
    }
complete (parenthesized r a s rest d) room os = λ h ready.
    let ih = complete d room (parenthesis ∷ os) (omega arith) (λ m k l b. refl) in
    let end : settle 16 ih.gs ih.t ≡ held (parenthesis ∷ os) a = ih.same 16 (record { least = omega arith; two = omega arith; power = λ e. absurd (omega arith); choice = λ e. absurd (omega arith); end = λ e. omega arith }) in record {
      gs = os;
      t = a;
      goes = stepped room (wanting os) (wanting (parenthesis ∷ os)) token.Open s (deep room parenthesis os (omega arith)) ∙ ih.goes
          ∙ stepped room (having ih.gs ih.t) (having os a) token.Close rest (ap (λ (x : Held). close_at x.os x.tree) end);
      same = λ m f. refl;
    }
complete (called r a s rest d) room os = λ h ready.
    let ih = complete d room os (omega arith) in record {
      gs = os;
      t = a;
      goes = ih.goes ∙ stepped room (having ih.gs ih.t) (having os a) token.Close rest (ap (λ (x : Held). close_at x.os x.tree) ih.same ∙ ih.closes);
      same = λ m f. refl;
    }
complete (first_argument r f a s rest d) room os = λ h.
    let ih = complete d room (calling f ∷ os) (omega arith) (λ m k l b. refl) in record {
      gs = ih.gs;
      t = ih.t;
      o = calling f;
      x = a;
      goes = stepped room (wanting os) (naming f os) (token.Function f) (token.Open ∷ s) (named room f os (omega arith)) ∙ ih.goes;
      same = ih.same 16 (record { least = omega arith; two = omega arith; power = λ e. absurd (omega arith); choice = λ e. absurd (omega arith); end = λ e. omega arith });
      closes = refl;
      commas = λ e. ap (λ (b : Bool). comma_after b (first f a) os) e;
    }
complete (next_argument r call a s u rest c d e) room os = λ h.
    let start = complete d room os h in
    let ih = complete e room (calling_on call ∷ os) (omega arith) (λ m k l b. refl) in record {
      gs = ih.gs;
      t = ih.t;
      o = calling_on call;
      x = a;
      goes = start.goes ∙ stepped room (having start.gs start.t) (wanting (calling_on call ∷ os)) token.Comma u (ap (λ (x : Held). comma_at x.os x.tree) start.same ∙ start.commas c) ∙ ih.goes;
      same = ih.same 16 (record { least = omega arith; two = omega arith; power = λ e. absurd (omega arith); choice = λ e. absurd (omega arith); end = λ e. omega arith });
      closes = refl;
      commas = λ e. refl;
    }
complete (left r n t o a b s u rest e l two d f) room os = λ h ready.
    let most = level_most o in
    let start = complete d room os h ready in
    let at : settle (level o) start.gs start.t ≡ held os a = start.same (level o) (record { least = omega arith; two = omega arith; power = λ e. absurd (omega arith); choice = λ e. absurd (omega arith); end = λ e. absurd (omega arith) }) ∙ ready (level o) (omega arith) (omega arith) a in
    let ih = complete f room (infixed o a ∷ os) h (λ m k j x. keeps m o a os x (takes_by_level o m (omega arith) ∙ lt-leb (level o) m (omega arith))) in record {
      gs = ih.gs;
      t = ih.t;
      goes = start.goes ∙ stepped room (having start.gs start.t) (wanting (infixed o a ∷ os)) t u (put_between room t o start.gs os start.t a e at) ∙ ih.goes;
      same = λ m g. ih.same m (record { least = omega (arith, g.least); two = g.two; power = λ e. absurd (omega (arith, g.least)); choice = λ e. omega (arith, g.choice e); end = λ e. omega (arith, g.end e) })
          ∙ gives m o a os b (takes_by_level o m (omega arith) ∙ le-leb (level o) m (omega (arith, g.least)));
    }
complete (right r a b s u rest d f) room os = λ h ready.
    let start = complete d room os h (no_level os) in
    let at : settle 2 start.gs start.t ≡ held os a = start.same 2 (record { least = omega arith; two = omega arith; power = λ e. omega arith; choice = λ e. absurd (omega arith); end = λ e. absurd (omega arith) }) ∙ ready 2 (omega arith) (omega arith) a in
    let ih = complete f room (infixed infix_operator.Power a ∷ os) h (λ m k j x. keeps m infix_operator.Power a os x (le-ltb 2 m j)) in record {
      gs = ih.gs;
      t = ih.t;
      goes = start.goes ∙ stepped room (having start.gs start.t) (wanting (infixed infix_operator.Power a ∷ os)) (token.Infix infix_operator.Power) u (put_between room (token.Infix infix_operator.Power) infix_operator.Power start.gs os start.t a refl at) ∙ ih.goes;
      same = λ m g. ih.same m g ∙ gives m infix_operator.Power a os b (lt-ltb 2 m (past m g));
    }
  where
    past : (m : ℕ) → Follows 2 m → 2 < m
    past zero g = absurd (omega (arith, g.two))
    past (suc zero) g = absurd (omega (arith, g.two))
    past (suc (suc zero)) g = absurd (omega (arith, g.power refl))
    past (suc (suc (suc m))) g = omega arith
complete (chosen r c a b s u v rest d f g) room os = λ h ready.
    let start = complete d room os (omega arith) (fewer 14 os ready) in
    let at : settle 15 start.gs start.t ≡ held os c = start.same 15 (record { least = omega arith; two = omega arith; power = λ e. absurd (omega arith); choice = λ e. omega arith; end = λ e. absurd (omega arith) }) ∙ ready 15 (omega arith) (omega arith) c in
    let second = complete f room (deciding c ∷ os) (omega arith) (λ m k l x. refl) in
    let there : settle 16 second.gs second.t ≡ held (deciding c ∷ os) a = second.same 16 (record { least = omega arith; two = omega arith; power = λ e. absurd (omega arith); choice = λ e. absurd (omega arith); end = λ e. omega arith }) in
    let ih = complete g room (otherwise c a ∷ os) (omega arith) (λ m k l x. keeps_choice m c a os x l) in record {
      gs = ih.gs;
      t = ih.t;
      goes = start.goes ∙ stepped room (having start.gs start.t) (wanting (deciding c ∷ os)) token.Question u (ap (question room) at ∙ deep room (deciding c) os (omega arith))
          ∙ second.goes ∙ stepped room (having second.gs second.t) (wanting (otherwise c a ∷ os)) token.Colon v (ap (λ (x : Held). colon_at x.os x.tree) there) ∙ ih.goes;
      same = λ m k. ih.same m k ∙ gives_choice m c a os b (past m k);
    }
  where
    past : (m : ℕ) → Follows 15 m → 16 ≤ m
    past m k = elim (eq-or-lt_of_le k.least) [ inl e ↦ absurd (omega (arith, k.choice (sym e))) | inr l ↦ l ]
complete (tighter r n a s rest d) room os = λ h ready.
    let ih = complete d room os h (fewer n os ready) in record {
      gs = ih.gs;
      t = ih.t;
      goes = ih.goes;
      same = λ m g. ih.same m (record { least = omega (arith, g.least); two = g.two; power = λ e. omega (arith, g.power e); choice = λ e. omega (arith, g.choice e); end = λ e. omega (arith, g.end e) });
    }

-- an expression is read as its tree
pub read : (room : ℕ) (a : Tree) (s : List Token) → IsExpression room a s → read_tokens room s ≡ Ok a
unfolding run settle depth
read room a s d =
    let c = complete d room [] (omega arith) (λ m k l x. refl) in
    let end : settle 16 c.gs c.t ≡ held [] a = c.same 16 (record { least = omega arith; two = omega arith; power = λ e. absurd (omega arith); choice = λ e. absurd (omega arith); end = λ e. omega arith }) in
    ap finished c.goes ∙ ap (λ (x : Held). only x.os x.tree) end
