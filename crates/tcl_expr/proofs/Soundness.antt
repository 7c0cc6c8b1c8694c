-- What is read is an expression.
use Rattle.std.proofs.Common.{◌≡◌, ◌∙◌, sym, ap, refl, subst, ℕ, zero, suc, pred, ◌+◌, ◌-◌, ◌<◌, ◌≤◌, nat_lt, Bool, true, false, cond, List, [], ◌∷◌, Option, Some, None, Ok, Err, arith, inl, inr, ◌⊎◌}
use Rattle.std.proofs.Math.Nat.{eq-or-lt_of_le}
use Rattle.std.proofs.lemmas.Bool.{ltb-true, ltb-false, leb-true, leb-false, cases_lt}
use Rattle.tcl_expr.specs.declared.operator.BinaryOperator.{BinaryOperator}
use Rattle.tcl_expr.specs.declared.operator.BinaryOperator.TheVariants as infix_operator
use Rattle.tcl_expr.specs.declared.operator.UnaryOperator.{UnaryOperator}
use Rattle.tcl_expr.specs.declared.operator.UnaryOperator.TheVariants as unary_operator
use Rattle.tcl_expr.specs.declared.operator.Function.{Function}
use Rattle.tcl_expr.specs.declared.grammar.Misfit.TheVariants.{TooDeep}
use Rattle.tcl_expr.specs.declared.token.Leaf.TheVariants.{Literal}
use Rattle.tcl_expr.specs.declared.token.Token.{Token}
use Rattle.tcl_expr.specs.declared.token.Token.TheVariants as token
use Rattle.tcl_expr.specs.Trees.{Tree, leaf, unary, binary, choice, first, also}
use Rattle.tcl_expr.specs.Grammar.{level, whole, prefix_of, infix_of, takes_one, is_complete, upto, arguments, Spells, operand, lowest, before, parenthesized, called, first_argument, next_argument, left, right, chosen, tighter, IsExpression}
use Rattle.tcl_expr.specs.Reading.{Open, prefixed, infixed, parenthesis, calling, calling_on, deciding, otherwise, State, wanting, naming, having, depth, takes, Held, settle, Step, deeper, name, want, want_other, have, have_other, between, question, named, close_at, comma_at, comma_after, colon_at, step, and_then, run, finish, finished, only, read_tokens}
use Rattle.tcl_expr.proofs.Completeness.{Follows, takes_by_level, gives, keeps, gives_choice, keeps_choice}

-- ## Levels

-- the levels up to which the operands of an operator go
abbrev pub first_level : BinaryOperator → ℕ
first_level infix_operator.Power = 1
first_level o = level o

abbrev pub second_level : BinaryOperator → ℕ
second_level infix_operator.Power = 2
second_level o = pred (level o)

-- the level up to which an expression may stand behind what is open
abbrev pub need : List Open → ℕ
need (prefixed o ∷ os) = 1
need (infixed o a ∷ os) = second_level o
need _ = 15

raise : {r : ℕ} {a : Tree} {s rest : List Token} (k n : ℕ) → k ≤ n → Spells (upto k) r a s rest → Spells (upto n) r a s rest
raise {r} {a} {s} {rest} k zero h d = let e : k ≡ 0 = omega arith in subst (λ (m : ℕ). Spells (upto m) r a s rest) e d
raise {r} {a} {s} {rest} k (suc n) h d = elim (eq-or-lt_of_le h) [
  | inl e ↦ subst (λ (m : ℕ). Spells (upto m) r a s rest) e d
  | inr l ↦ tighter r n a s rest (raise k n (omega arith) d)
]

-- `**`, or an operator that groups to the left
pub data Grouping (o : BinaryOperator) : Type 0 where
  power : o ≡ infix_operator.Power → Grouping o
  other : (n : ℕ) → level o ≡ suc n → 2 ≤ n → suc n ≤ 14 → first_level o ≡ suc n → second_level o ≡ n → Grouping o

grouping : (o : BinaryOperator) → Grouping o
grouping infix_operator.Power = power refl
grouping infix_operator.Multiply = other 2 refl (omega arith) (omega arith) refl refl
grouping infix_operator.Divide = other 2 refl (omega arith) (omega arith) refl refl
grouping infix_operator.Remainder = other 2 refl (omega arith) (omega arith) refl refl
grouping infix_operator.Add = other 3 refl (omega arith) (omega arith) refl refl
grouping infix_operator.Subtract = other 3 refl (omega arith) (omega arith) refl refl
grouping infix_operator.ShiftLeft = other 4 refl (omega arith) (omega arith) refl refl
grouping infix_operator.ShiftRight = other 4 refl (omega arith) (omega arith) refl refl
grouping infix_operator.Less = other 5 refl (omega arith) (omega arith) refl refl
grouping infix_operator.Greater = other 5 refl (omega arith) (omega arith) refl refl
grouping infix_operator.AtMost = other 5 refl (omega arith) (omega arith) refl refl
grouping infix_operator.AtLeast = other 5 refl (omega arith) (omega arith) refl refl
grouping infix_operator.Equal = other 6 refl (omega arith) (omega arith) refl refl
grouping infix_operator.Unequal = other 6 refl (omega arith) (omega arith) refl refl
grouping infix_operator.SameText = other 7 refl (omega arith) (omega arith) refl refl
grouping infix_operator.OtherText = other 7 refl (omega arith) (omega arith) refl refl
grouping infix_operator.Within = other 8 refl (omega arith) (omega arith) refl refl
grouping infix_operator.Without = other 8 refl (omega arith) (omega arith) refl refl
grouping infix_operator.BitAnd = other 9 refl (omega arith) (omega arith) refl refl
grouping infix_operator.BitXor = other 10 refl (omega arith) (omega arith) refl refl
grouping infix_operator.BitOr = other 11 refl (omega arith) (omega arith) refl refl
grouping infix_operator.And = other 12 refl (omega arith) (omega arith) refl refl
grouping infix_operator.Or = other 13 refl (omega arith) (omega arith) refl refl

only_power : (t : Token) → infix_of t ≡ Some infix_operator.Power → t ≡ token.Infix infix_operator.Power
only_power token.Plus e = cc
only_power token.Minus e = cc
only_power (token.Infix o) e = let same : o ≡ infix_operator.Power = cc in ap token.Infix same
only_power (token.Operand x) e = cc
only_power (token.Lowest x) e = cc
only_power (token.Prefix o) e = cc
only_power (token.Function f) e = cc
only_power token.Open e = cc
only_power token.Close e = cc
only_power token.Comma e = cc
only_power token.Question e = cc
only_power token.Colon e = cc

-- an operator with both its operands is an operand of its level
joined : {r : ℕ} {a b : Tree} {s u rest : List Token} (t : Token) (o : BinaryOperator) → infix_of t ≡ Some o →
    Spells (upto (first_level o)) r a s (t ∷ u) → Spells (upto (second_level o)) r b u rest → Spells (upto (level o)) r (binary o a b) s rest
joined {r} {a} {b} {s} {u} {rest} t o e d f = elim (grouping o) [
  | power p ↦ at_power p
  | other n l two most x y ↦ subst (λ (m : ℕ). Spells (upto m) r (binary o a b) s rest) (sym l)
      (left r n t o a b s u rest e l two (subst (λ (m : ℕ). Spells (upto m) r a s (t ∷ u)) x d) (subst (λ (m : ℕ). Spells (upto m) r b u rest) y f))
]
  where
    by_power : (p : BinaryOperator) → p ≡ infix_operator.Power → infix_of t ≡ Some p → Spells (upto (first_level p)) r a s (t ∷ u) → Spells (upto (second_level p)) r b u rest → Spells (upto (level p)) r (binary p a b) s rest
    by_power infix_operator.Power p g x y = right r a b s u rest (subst (λ (q : Token). Spells (upto 1) r a s (q ∷ u)) (only_power t g) x) y
    by_power _ p g x y = absurd cc

    at_power : o ≡ infix_operator.Power → Spells (upto (level o)) r (binary o a b) s rest
    at_power p = by_power o p e d f

-- ## What stands open, with the tokens that it was read from

-- From s to the place behind it the tokens are what stands open.
pub data Stack (room : ℕ) (s : List Token) : List Open → List Token → Type 0 where
  bottom : Stack room s [] s
  on_prefix : (os : List Open) (t : Token) (o : UnaryOperator) (u : List Token) → Stack room s os (t ∷ u) → prefix_of t ≡ Some o → depth os < room → Stack room s (prefixed o ∷ os) u
  on_infix : (os : List Open) (t : Token) (o : BinaryOperator) (a : Tree) (r : ℕ) (v u : List Token) → Stack room s os v → infix_of t ≡ Some o → depth os + r ≡ room →
      Spells (upto (first_level o)) r a v (t ∷ u) → level o ≤ need os → Stack room s (infixed o a ∷ os) u
  on_open : (os : List Open) (u : List Token) → Stack room s os (token.Open ∷ u) → depth os < room → Stack room s (parenthesis ∷ os) u
  on_call : (os : List Open) (f : Function) (u : List Token) → Stack room s os (token.Function f ∷ token.Open ∷ u) → depth os < room → Stack room s (calling f ∷ os) u
  on_argument : (os : List Open) (call : Tree) (r : ℕ) (v u : List Token) → Stack room s os v → suc (depth os) + r ≡ room → Spells arguments r call v (token.Comma ∷ u) → is_complete call ≡ false → Stack room s (calling_on call ∷ os) u
  on_question : (os : List Open) (c : Tree) (r : ℕ) (v u : List Token) → Stack room s os v → suc (depth os) + r ≡ room → Spells (upto 14) (suc r) c v (token.Question ∷ u) → 15 ≤ need os → Stack room s (deciding c ∷ os) u
  on_colon : (os : List Open) (c a : Tree) (r : ℕ) (v w u : List Token) → Stack room s os v → suc (depth os) + r ≡ room → Spells (upto 14) (suc r) c v (token.Question ∷ w) →
      Spells (upto 15) r a w (token.Colon ∷ u) → 15 ≤ need os → Stack room s (otherwise c a ∷ os) u

-- an operand behind what stands open, of a level that may stand there
pub record Stands (room : ℕ) (s : List Token) (os : List Open) (a : Tree) (u : List Token) (n : ℕ) : Type 0 where
  pub k : ℕ
  pub r : ℕ
  pub v : List Token
  pub stack : Stack room s os v
  pub spelled : Spells (upto k) r a v u
  pub room_is : depth os + r ≡ room
  pub follows : Follows k n
  pub fits : k ≤ need os

-- the same after an operator of level n, or an end, was looked at
pub record Settled (room : ℕ) (s : List Token) (h : Held) (u : List Token) (n : ℕ) : Type 0 where
  pub k : ℕ
  pub r : ℕ
  pub v : List Token
  pub stack : Stack room s h.os v
  pub spelled : Spells (upto k) r h.tree v u
  pub room_is : depth h.os + r ≡ room
  pub follows : Follows k n
  pub need_is : n ≤ 15 → n ≤ need h.os

bool_cases : (b : Bool) → (b ≡ true) ⊎ (b ≡ false)
bool_cases true = inl refl
bool_cases false = inr refl

need_least : {room : ℕ} {s u : List Token} {os : List Open} → Stack room s os u → 1 ≤ need os
need_least bottom = omega arith
need_least (on_prefix os t o u st e lt) = omega arith
need_least (on_infix os t o a r v u st e eq d lv) = least_second o
  where
    least_second : (o : BinaryOperator) → 1 ≤ second_level o
    least_second o = elim (grouping o) [ power p ↦ subst (λ (q : BinaryOperator). 1 ≤ second_level q) (sym p) (omega arith) | other n l two most x y ↦ omega arith ]
need_least (on_open os u st lt) = omega arith
need_least (on_call os f u st lt) = omega arith
need_least (on_argument os call r v u st eq d c) = omega arith
need_least (on_question os c r v u st eq d nd) = omega arith
need_least (on_colon os c a r v w u st eq d f nd) = omega arith

stack_room : {room : ℕ} {s u : List Token} {os : List Open} → Stack room s os u → depth os ≤ room
unfolding depth
stack_room bottom = omega arith
stack_room (on_prefix os t o u st e lt) = omega arith
stack_room (on_infix os t o a r v u st e eq d lv) = omega arith
stack_room (on_open os u st lt) = omega arith
stack_room (on_call os f u st lt) = omega arith
stack_room (on_argument os call r v u st eq d c) = omega arith
stack_room (on_question os c r v u st eq d nd) = omega arith
stack_room (on_colon os c a r v w u st eq d f nd) = omega arith

takes_follow : (o : BinaryOperator) (k n : ℕ) → takes o n ≡ true → Follows k n → n ≤ 16 → Follows (level o) n
takes_follow o k n e f top = elim (grouping o) [
  | power p ↦ by_power o p e
  | other m l two most x y ↦ let below : level o ≤ n = leb-true (level o) n (sym (takes_by_level o n (omega arith)) ∙ e) in
      record { least = below; two = f.two; power = λ q. absurd (omega arith); choice = λ q. omega arith; end = λ q. omega arith }
]
  where
    by_power : (q : BinaryOperator) → q ≡ infix_operator.Power → takes q n ≡ true → Follows (level q) n
    by_power infix_operator.Power p e = let past : 2 < n = ltb-true 2 n e in record { least = omega arith; two = omega arith; power = λ q. absurd (omega arith); choice = λ q. omega arith; end = λ q. omega arith }
    by_power _ p e = absurd cc

takes_not : (o : BinaryOperator) (n : ℕ) → takes o n ≡ false → n ≤ second_level o
takes_not o n e = elim (grouping o) [
  | power p ↦ by_power o p e
  | other m l two most x y ↦ let above : n < level o = leb-false (level o) n (sym (takes_by_level o n (omega arith)) ∙ e) in omega arith
]
  where
    by_power : (q : BinaryOperator) → q ≡ infix_operator.Power → takes q n ≡ false → n ≤ second_level q
    by_power infix_operator.Power p e = ltb-false 2 n e
    by_power _ p e = absurd cc

follows_one : (k n : ℕ) → Follows k n → Follows 1 n
follows_one k n f = record { least = omega (arith, f.two); two = f.two; power = λ e. omega arith; choice = λ e. omega arith; end = λ e. omega arith }

settles : {room n : ℕ} {s u v : List Token} {os : List Open} → Stack room s os v → (a : Tree) (k r : ℕ) → Spells (upto k) r a v u → depth os + r ≡ room → Follows k n → k ≤ need os → n ≤ 16 → Settled room s (settle n os a) u n
unfolding settle depth
settles bottom a k r d eq f fit top = record { k = k; r = r; v = _; stack = bottom; spelled = d; room_is = eq; follows = f; need_is = λ h. h }
settles {n = n} (on_prefix os t o w st e lt) a k r d eq f fit top =
    settles st (unary o a) 1 (suc r) (before r t o a w _ e (raise k 1 fit d)) (omega arith) (follows_one k n f) (need_least st) top
settles {room} {n} {s} {u} (on_infix os t o l q x w st e same g lv) a k r d eq f fit top =
    let one : r ≡ q = omega arith in
    elim (bool_cases (takes o n)) [
      | inl yes_takes ↦ subst (λ (h : Held). Settled room s h u n) (sym (gives n o l os a yes_takes))
          (settles st (binary o l a) (level o) q (joined t o e g (raise k (second_level o) fit (subst (λ (m : ℕ). Spells (upto k) m a w u) one d))) same (takes_follow o k n yes_takes f top) lv top)
      | inr not_takes ↦ subst (λ (h : Held). Settled room s h u n) (sym (keeps n o l os a not_takes))
          (record { k = k; r = r; v = w; stack = on_infix os t o l q x w st e same g lv; spelled = d; room_is = eq; follows = f; need_is = λ h. takes_not o n not_takes })
    ]
settles (on_open os w st lt) a k r d eq f fit top = record { k = k; r = r; v = w; stack = on_open os w st lt; spelled = d; room_is = eq; follows = f; need_is = λ h. h }
settles (on_call os g w st lt) a k r d eq f fit top = record { k = k; r = r; v = w; stack = on_call os g w st lt; spelled = d; room_is = eq; follows = f; need_is = λ h. h }
settles (on_argument os call q x w st e g c) a k r d eq f fit top = record { k = k; r = r; v = w; stack = on_argument os call q x w st e g c; spelled = d; room_is = eq; follows = f; need_is = λ h. h }
settles (on_question os c q x w st e g nd) a k r d eq f fit top = record { k = k; r = r; v = w; stack = on_question os c q x w st e g nd; spelled = d; room_is = eq; follows = f; need_is = λ h. h }
settles {room} {n} {s} {u} (on_colon os c b q x y w st e g j nd) a k r d eq f fit top =
    elim (cases_lt n 16) [
      | inl small ↦ subst (λ (h : Held). Settled room s h u n) (sym (keeps_choice n c b os a (omega arith)))
          (record { k = k; r = r; v = w; stack = on_colon os c b q x y w st e g j nd; spelled = d; room_is = eq; follows = f; need_is = λ h. h })
      | inr big ↦ let one : r ≡ q = omega arith in
          subst (λ (h : Held). Settled room s h u n) (sym (gives_choice n c b os a big))
          (settles st (choice c b a) 15 (suc q) (chosen q c b a x y w u g j (raise k 15 fit (subst (λ (m : ℕ). Spells (upto k) m a w u) one d))) (omega arith)
          (record { least = omega arith; two = omega arith; power = λ z. absurd (omega arith); choice = λ z. absurd (omega arith); end = λ z. omega arith }) nd top)
    ]

-- ## Steps

-- what the tokens up to a place are
pub data Reached (room : ℕ) (s : List Token) : State → List Token → Type 0 where
  at_want : (os : List Open) (u : List Token) → Stack room s os u → Reached room s (wanting os) u
  at_name : (f : Function) (os : List Open) (u : List Token) → Stack room s os (token.Function f ∷ u) → depth os < room → Reached room s (naming f os) u
  at_have : (os : List Open) (a : Tree) (r : ℕ) (v u : List Token) → Stack room s os v → Spells (upto 1) r a v u → depth os + r ≡ room → Reached room s (having os a) u

abbrev pub Good : ℕ → List Token → Step → List Token → Type 0
Good room s (Ok q) u = Reached room s q u
Good room s (Err e) u = Unit {0}

first_fits : (o : BinaryOperator) (k : ℕ) → Follows k (level o) → k ≤ first_level o
first_fits o k f = elim (grouping o) [
  | power p ↦ by_power o p f
  | other n l two most x y ↦ omega (arith, f.least)
]
  where
    by_power : (q : BinaryOperator) → q ≡ infix_operator.Power → Follows k (level q) → k ≤ first_level q
    by_power infix_operator.Power p f = f.power refl
    by_power _ p f = absurd cc

at_end : (k : ℕ) → Follows k 16 → k ≤ 15
at_end k f = f.end refl

follows_start : (n : ℕ) → 2 ≤ n → n ≤ 16 → Follows 1 n
follows_start n h l = record { least = omega arith; two = h; power = λ e. omega arith; choice = λ e. omega arith; end = λ e. omega arith }

module _ {room : ℕ} {s : List Token} where
  by_room : (b : Bool) (n : ℕ) (q : State) (u : List Token) → nat_lt n room ≡ b → (n < room → Reached room s q u) → Good room s (cond b (Ok q) (Err TooDeep)) u
  by_room true n q u e h = h (ltb-true n room e)
  by_room false n q u e h = tt

  goes_deeper : (o : Open) (os : List Open) (u : List Token) → (depth os < room → Stack room s (o ∷ os) u) → Good room s (deeper room o os) u
  goes_deeper o os u h = by_room (nat_lt (depth os) room) (depth os) (wanting (o ∷ os)) u refl (λ lt. at_want (o ∷ os) u (h lt))

  lowest_good : {os : List Open} {v : List Token} (x : List ℕ) (u : List Token) → Stack room s os v → v ≡ token.Lowest x ∷ u → Good room s (Rattle.tcl_expr.specs.Reading.lowest x os) u
  unfolding depth
  lowest_good x u (on_prefix os t unary_operator.Negate w st e lt) q =
      let whole_text : t ∷ w ≡ t ∷ token.Lowest x ∷ u = ap (λ (z : List Token). t ∷ z) q in
      let deep : suc (room - suc (depth os)) ≡ room - depth os = omega arith in
      at_have os (leaf (Literal (45 ∷ x))) (room - depth os) (t ∷ token.Lowest x ∷ u) u (subst (Stack room s os) whole_text st)
      (subst (λ (m : ℕ). Spells (upto 1) m (leaf (Literal (45 ∷ x))) (t ∷ token.Lowest x ∷ u) u) deep (lowest (room - suc (depth os)) t x u e)) (omega arith)
  lowest_good x u _ q = tt

  want_good : (os : List Open) (t : Token) (u : List Token) → Stack room s os (t ∷ u) → (x : Option UnaryOperator) → prefix_of t ≡ x → Good room s (want room os t x) u
  unfolding depth
  want_good os t u st (Some o) e = goes_deeper (prefixed o) os u (λ lt. on_prefix os t o u st e lt)
  want_good os (token.Operand x) u st None e = let most = stack_room st in at_have os (leaf x) (room - depth os) (token.Operand x ∷ u) u st (operand (room - depth os) x u) (omega arith)
  want_good os (token.Lowest x) u st None e = lowest_good x u st refl
  want_good os token.Open u st None e = goes_deeper parenthesis os u (λ lt. on_open os u st lt)
  want_good os (token.Function f) u st None e = by_room (nat_lt (depth os) room) (depth os) (naming f os) u refl (λ lt. at_name f os u st lt)
  want_good os _ u st None e = tt

  named_good : (f : Function) (os : List Open) (t : Token) (u : List Token) → Stack room s os (token.Function f ∷ t ∷ u) → depth os < room → Good room s (named f os t) u
  named_good f os token.Open u st lt = at_want (calling f ∷ os) u (on_call os f u st lt)
  named_good f os (token.Lowest x) u st lt = tt
  named_good f os _ u st lt = tt

  colon_good : {os : List Open} {v : List Token} (a : Tree) (k r : ℕ) (u : List Token) → Stack room s os v → Spells (upto k) r a v (token.Colon ∷ u) → depth os + r ≡ room → k ≤ 15 → Good room s (colon_at os a) u
  unfolding depth
  colon_good a k r u (on_question os c q v w st e d nd) g eq fit =
      let one : r ≡ q = omega arith in
      at_want (otherwise c a ∷ os) u (on_colon os c a q v w u st e d (raise k 15 fit (subst (λ (m : ℕ). Spells (upto k) m a w (token.Colon ∷ u)) one g)) nd)
  colon_good a k r u _ g eq fit = tt

  close_good : {os : List Open} {v : List Token} (a : Tree) (k r : ℕ) (u : List Token) → Stack room s os v → Spells (upto k) r a v (token.Close ∷ u) → depth os + r ≡ room → k ≤ 15 → Good room s (close_at os a) u
  unfolding depth
  close_good a k r u (on_open os w st lt) g eq fit = at_have os a (suc r) (token.Open ∷ w) u st (parenthesized r a w u (raise k 15 fit g)) (omega arith)
  close_good a k r u (on_call os f w st lt) g eq fit = at_have os (first f a) (suc r) (token.Function f ∷ token.Open ∷ w) u st
      (called r (first f a) (token.Function f ∷ token.Open ∷ w) u (first_argument r f a w (token.Close ∷ u) (raise k 15 fit g))) (omega arith)
  close_good a k r u (on_argument os call q v w st e d c) g eq fit =
      let one : r ≡ q = omega arith in
      at_have os (also call a) (suc q) v u st
      (called q (also call a) v u (next_argument q call a v w (token.Close ∷ u) c d (raise k 15 fit (subst (λ (m : ℕ). Spells (upto k) m a w (token.Close ∷ u)) one g)))) (omega arith)
  close_good a k r u _ g eq fit = tt

  comma_good : {os : List Open} {v : List Token} (a : Tree) (k r : ℕ) (u : List Token) → Stack room s os v → Spells (upto k) r a v (token.Comma ∷ u) → depth os + r ≡ room → k ≤ 15 → Good room s (comma_at os a) u
  unfolding depth
  comma_good a k r u (on_call os f w st lt) g eq fit = by_count (takes_one f) refl
    where
      by_count : (b : Bool) → takes_one f ≡ b → Good room s (comma_after b (first f a) os) u
      by_count true e = tt
      by_count false e = at_want (calling_on (first f a) ∷ os) u (on_argument os (first f a) r (token.Function f ∷ token.Open ∷ w) u st eq (first_argument r f a w (token.Comma ∷ u) (raise k 15 fit g)) e)
  comma_good a k r u (on_argument os call q v w st e d c) g eq fit =
      let one : r ≡ q = omega arith in
      at_want (calling_on (also call a) ∷ os) u (on_argument os (also call a) q v u st e (next_argument q call a v w (token.Comma ∷ u) c d (raise k 15 fit (subst (λ (m : ℕ). Spells (upto k) m a w (token.Comma ∷ u)) one g))) refl)
  comma_good a k r u _ g eq fit = tt

  settled_at : (n : ℕ) → 2 ≤ n → n ≤ 16 → (os : List Open) (a : Tree) (r : ℕ) (v u : List Token) → Stack room s os v → Spells (upto 1) r a v u → depth os + r ≡ room → Settled room s (settle n os a) u n
  settled_at n h l os a r v u st d eq = settles st a 1 r d eq (follows_start n h l) (need_least st) l

  question_good : (h : Held) (u : List Token) → Settled room s h (token.Question ∷ u) 15 → Good room s (question room h) u
  question_good h u x = goes_deeper (deciding h.tree) h.os u (λ lt.
      let less : x.r ≡ suc (x.r - 1) = omega (arith, x.room_is) in
      on_question h.os h.tree (x.r - 1) x.v u x.stack (omega (arith, x.room_is)) (subst (λ (m : ℕ). Spells (upto 14) m h.tree x.v (token.Question ∷ u)) less (raise x.k 14 (x.follows.choice refl) x.spelled)) (x.need_is (omega arith)))

  between_good : (t : Token) (o : BinaryOperator) (h : Held) (u : List Token) → infix_of t ≡ Some o → Settled room s h (t ∷ u) (level o) → level o ≤ 15 → Good room s (between o h) u
  between_good t o h u e x l = at_want (infixed o h.tree ∷ h.os) u (on_infix h.os t o h.tree x.r x.v u x.stack e x.room_is (raise x.k (first_level o) (first_fits o x.k x.follows) x.spelled) (x.need_is l))

  have_good : (os : List Open) (a : Tree) (r : ℕ) (v : List Token) (t : Token) (u : List Token) → Stack room s os v → Spells (upto 1) r a v (t ∷ u) → depth os + r ≡ room → (x : Option BinaryOperator) → infix_of t ≡ x → Good room s (have room os a t x) u
  have_good os a r v t u st d eq (Some o) e = let bounds = level_bounds o in between_good t o (settle (level o) os a) u e (settled_at (level o) bounds.0 (omega (arith, bounds.1)) os a r v (t ∷ u) st d eq) (omega (arith, bounds.1))
    where
      level_bounds : (o : BinaryOperator) → (2 ≤ level o) × (level o ≤ 14)
      level_bounds o = elim (grouping o) [ power p ↦ subst (λ (q : BinaryOperator). (2 ≤ level q) × (level q ≤ 14)) (sym p) (omega arith, omega arith) | other n l two most x y ↦ (omega arith, omega arith) ]
  have_good os a r v token.Question u st d eq None e = question_good (settle 15 os a) u (settled_at 15 (omega arith) (omega arith) os a r v (token.Question ∷ u) st d eq)
  have_good os a r v token.Colon u st d eq None e = let x = settled_at 16 (omega arith) (omega arith) os a r v (token.Colon ∷ u) st d eq in colon_good (settle 16 os a).tree x.k x.r u x.stack x.spelled x.room_is (at_end x.k x.follows)
  have_good os a r v token.Close u st d eq None e = let x = settled_at 16 (omega arith) (omega arith) os a r v (token.Close ∷ u) st d eq in close_good (settle 16 os a).tree x.k x.r u x.stack x.spelled x.room_is (at_end x.k x.follows)
  have_good os a r v token.Comma u st d eq None e = let x = settled_at 16 (omega arith) (omega arith) os a r v (token.Comma ∷ u) st d eq in comma_good (settle 16 os a).tree x.k x.r u x.stack x.spelled x.room_is (at_end x.k x.follows)
  have_good os a r v (token.Lowest x) u st d eq None e = tt
  have_good os a r v _ u st d eq None e = tt

  pub step_good : (q : State) (t : Token) (u : List Token) → Reached room s q (t ∷ u) → Good room s (step room q t) u
  unfolding step
  step_good (wanting os) t u (at_want _ _ st) = want_good os t u st (prefix_of t) refl
  step_good (naming f os) t u (at_name _ _ _ st lt) = named_good f os t u st lt
  step_good (having os a) t u (at_have _ _ r v _ st d eq) = have_good os a r v t u st d eq (infix_of t) refl

  then_good : (x : Step) (t : List Token) → ((q : State) → Reached room s q t → Good room s (run room q t) []) → Good room s x t → Good room s (and_then x (λ q. run room q t)) []
  then_good (Ok q) t h g = h q g
  then_good (Err e) t h g = tt

  pub run_good : (q : State) (u : List Token) → Reached room s q u → Good room s (run room q u) []
  unfolding run
  run_good q [] h = h
  run_good q (t ∷ u) h = then_good (step room q t) u (λ p g. run_good p u g) (step_good q t u h)

  at_bottom : {os : List Open} {v : List Token} (x a : Tree) (k r : ℕ) → Stack room s os v → Spells (upto k) r x v [] → depth os + r ≡ room → k ≤ 15 → only os x ≡ Ok a → IsExpression room a s
  unfolding depth
  at_bottom x a k r bottom d eq fit e =
      let one : r ≡ room = omega arith in let same : x ≡ a = cc in
      subst (λ (y : Tree). Spells (upto whole) room y s []) same (subst (λ (m : ℕ). Spells (upto whole) m x s []) one (raise k 15 fit d))
  at_bottom x a k r _ d eq fit e = absurd cc

  finish_good : (q : State) (a : Tree) → Reached room s q [] → finish q ≡ Ok a → IsExpression room a s
  finish_good (wanting os) a h e = absurd cc
  finish_good (naming f os) a h e = absurd cc
  finish_good (having os x) a (at_have _ _ r v _ st d eq) e = let y = settled_at 16 (omega arith) (omega arith) os x r v [] st d eq in at_bottom (settle 16 os x).tree a y.k y.r y.stack y.spelled y.room_is (at_end y.k y.follows) e

  finished_good : (x : Step) (a : Tree) → Good room s x [] → finished x ≡ Ok a → IsExpression room a s
  finished_good (Ok q) a g e = finish_good q a g e
  finished_good (Err f) a g e = absurd cc

-- what is read is an expression of that tree
pub expression : (room : ℕ) (a : Tree) (s : List Token) → read_tokens room s ≡ Ok a → IsExpression room a s
expression room a s e = finished_good (run room (wanting []) s) a (run_good (wanting []) s (at_want [] s bottom)) e
