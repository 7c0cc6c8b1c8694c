-- What a player reads of some happenings, and the worlds in which they are ahead.
use Rattle.std.proofs.Common.{sym, ◌≡◌, ℕ, suc, ◌+◌, List, [], ◌∷◌, ◌++◌, Option, Some, None, refl, ◌∙◌, ap, subst, arith, append-nil, append_assoc, true, false}
use Rattle.tcl_core.specs.Paths.{Path, Place, Height, rise_to}
use Rattle.tcl_core.specs.Endings.{Reply}
use Rattle.tcl_core.specs.Endings.Reply.{Completed, Stop, Exit, Cut}
use Rattle.tcl_core.specs.Entries.{Entry, Answer}
use Rattle.tcl_core.specs.Entries.Answer.{Replied}
use Rattle.tcl_core.specs.Trees.{Tree, Node, What, Event, Move, Grants, effect, asked, granted, paid, where_none}
use Rattle.tcl_core.specs.Trees.Grants.{Budget}
use Rattle.tcl_core.specs.Trees.Move.{Enter, Come}
use Rattle.tcl_core.specs.Trees.What.{Charged, Refused, Nested, Out, In, Done, Back, Unfound}
use Rattle.tcl_core.specs.Programs.{Wait, Wrap, closes}
use Rattle.tcl_core.specs.Runs.{World, Step, fits, is_told, gone}
use Rattle.tcl_core.specs.Execution.{Crossings, event}
use Rattle.tcl_core.specs.Lives.{Outcome, Uncut, IsUncut, begun, begun_at, ended, ended_at, last_of, one_more, outs_of, outcome_of, outcome_at, put, told}
use Rattle.tcl_core.specs.Lives.Outcome.{Finished, Exited}
use Rattle.tcl_core.proofs.Beginnings.{outs_append}
use Rattle.tcl_core.proofs.Following.{handed, allowed, handed-append, allowed-append}
use Rattle.tcl_core.proofs.Plain.{IsPlain}
use Rattle.tcl_core.proofs.TreeLaws.{denied_budget}
use Rattle.tcl_reactions.specs.Playing.{Answers, Fate, HandsIn, Player, Tells, past, plays, suits, telling, IsEnd}
use Rattle.tcl_core.proofs.TreeLaws.{any_close}

-- no entry ended by an exit
abbrev pub Calm : Outcome → Type 0
Calm (Exited n) = Prim.⊥
Calm x = Unit {0}

-- an end fits every open call
end_told : (g : Option ℕ) (h : Height) (i : Entry) (r : Reply) → IsEnd (Replied r) → is_told g h i (Replied r) ≡ true
end_told g h i (Completed d) f = absurd f
end_told g h i (Stop n m) f = absurd f
end_told None (Some h) i (Exit n) f = refl
end_told None (Some h) i (Cut d) f = refl
end_told None None i (Exit n) f = refl
end_told None None i (Cut d) f = refl
end_told (Some g) h i (Exit n) f = refl
end_told (Some g) h i (Cut d) f = refl

pub fits_open : (O : Type 0) (T : Tree O) (p : Place) (c : Height × Entry × ℕ) (r : Reply) → IsEnd (Replied r) → fits T p (Some c) (Come (Replied r)) ≡ true
fits_open O T p c r f = end_told (gone c.2 T p) c.0 c.1 r f

pub fits_end : (O : Type 0) (T U : Tree O) (p q : Place) (s : Wait) (a : Answer) → fits T p s (Come a) ≡ true → (r : Reply) → IsEnd (Replied r) → fits U q s (Come (Replied r)) ≡ true
fits_end O T U p q None a e r f = let x : false ≡ true = e in cc
fits_end O T U p q (Some c) a e r f = fits_open O U q c r f

pub calm_suits : (O : Type 0) (x : Outcome) (T : Tree O) (p : Place) (s : Wait) (m : Move O) → Calm x → suits x T p s m ≡ fits T p s m
calm_suits O (Exited n) T p s m c = absurd c
calm_suits O x T p s (Come a) c = refl
calm_suits O x T p s m c = refl

pub calm_finished : (x : Outcome) → x ≡ Finished → Calm x
calm_finished x e = subst Calm (sym e) tt

abbrev pub IsBudget : Grants → Type 0
IsBudget gs = (n : ℕ) × (gs ≡ Budget n)

more_plus : (o : Option Place) (a b c : ℕ) → a ≡ b + c → one_more o a ≡ one_more o b + c
more_plus None a b c e = omega (arith, e)
more_plus (Some z) a b c e = e

not_out : (o : Option Place) (a : Place) → o ≡ Some a → o ≡ None → Prim.⊥
not_out o a e f = cc

-- what is left after some happenings
pub record Rest (O : Type 0) : Type 0 where
  pub moves : List (Move O)
  pub grants : Grants
  pub tape : List (Event O)

module _ {O : Type 0} where
  pub granted_paid : (p : Place) (x : What O) (n : ℕ) → granted p x (Budget n) ≡ Budget (paid x n + 0)
  granted_paid p Charged n = let e : suc n ≡ suc n + 0 = omega arith in ap Budget e
  granted_paid p Nested n = let e : n ≡ n + 0 = omega arith in ap Budget e
  granted_paid p (Refused m h) n = let e : n ≡ n + 0 = omega arith in denied_budget (rise_to h p) n ∙ ap Budget e
  granted_paid p _ n = let e : n ≡ n + 0 = omega arith in ap Budget e

  pub allowed_budget : (τ : List (Event O)) (gs : Grants) → IsBudget gs → IsBudget (allowed τ gs)
  allowed_budget [] gs b = b
  allowed_budget (ev ∷ τ) gs b =
      let h : IsBudget (allowed τ gs) = allowed_budget τ gs b in
      (paid ev.what h.0 + 0, ap (granted ev.place ev.what) h.1 ∙ granted_paid ev.place ev.what h.0)

  -- the world in which these are to happen, and then the rest
  abbrev pub ahead : Tree O → List (Event O) → Rest O → World O
  ahead T τ y = record { tree = T; moves = handed τ y.moves; grants = allowed τ y.grants; tape = τ ++ y.tape }

  abbrev pub later : List (Event O) → Rest O → Rest O
  later b y = record { moves = handed b y.moves; grants = allowed b y.grants; tape = b ++ y.tape }

  pub ahead-append : (T : Tree O) (a b : List (Event O)) (y : Rest O) → ahead T (a ++ b) y ≡ ahead T a (later b y)
  ahead-append T a b y = λ i. record { tree = T; moves = handed-append a b y.moves i; grants = allowed-append a b y.grants i; tape = append_assoc a b y.tape i }

  pub next : (T : Tree O) (p : Place) (x : What O) (τ : List (Event O)) (y : Rest O) → Step (ahead T (event p x ∷ τ) y) p x (ahead (effect p x T) τ y)
  next T p x τ y = record { tape = refl; tree = refl; moves = refl; grants = refl }

  -- COUNTS AND OUTCOMES
  pub begun_append : (a b : List (Event O)) → begun (a ++ b) ≡ begun a + begun b
  begun_append [] b = let e : begun b ≡ 0 + begun b = omega arith in e
  begun_append (ev ∷ a) b = by ev.place ev.what (begun (a ++ b)) (begun a) (begun b) (begun_append a b)
    where
      by : (p : Place) (x : What O) (n m k : ℕ) → n ≡ m + k → begun_at p x n ≡ begun_at p x m + k
      by p (In h i) n m k e = more_plus (rise_to h p) n m k e
      by p x n m k e = e

  pub ended_append : (a b : List (Event O)) → ended (a ++ b) ≡ ended a + ended b
  ended_append [] b = let e : ended b ≡ 0 + ended b = omega arith in e
  ended_append (ev ∷ a) b = by ev.place ev.what (ended (a ++ b)) (ended a) (ended b) (ended_append a b)
    where
      by : (p : Place) (x : What O) (n m k : ℕ) → n ≡ m + k → ended_at p x n ≡ ended_at p x m + k
      by p (Done h r) n m k e = more_plus (rise_to h p) n m k e
      by p x n m k e = e

  pub outcome_append : (a b : List (Event O)) (x : Outcome) → outcome_of (a ++ b) x ≡ outcome_of b (outcome_of a x)
  outcome_append [] b x = refl
  outcome_append (ev ∷ a) b x = outcome_append a b (outcome_at ev.place ev.what x)

  put_out : (o : Option Place) (h : Height) (p : Place) (down : Path) (i : Entry) (τ : List (Event O)) (x : Outcome) → outcome_of (put o p (Out h down i) τ) x ≡ outcome_of τ x
  put_out None h p down i τ x = refl
  put_out (Some a) h p down i τ x = refl

  put_done : (o : Option Place) (h : Height) (p : Place) (r : Reply) (τ : List (Event O)) (x : Outcome) → rise_to h p ≡ o → outcome_of (put o p (Done h r) τ) x ≡ outcome_of τ (last_of o r x)
  put_done None h p r τ x e = ap (λ l. outcome_of τ (last_of l r x)) e
  put_done (Some a) h p r τ x e = refl

  told_outcome : (p : Place) (y : What O) (τ : List (Event O)) (x : Outcome) → outcome_of (told p y τ) x ≡ outcome_of τ (outcome_at p y x)
  told_outcome p (Out h down i) τ x = put_out (rise_to h p) h p down i τ x
  told_outcome p (Done h r) τ x = put_done (rise_to h p) h p r τ x refl
  told_outcome p y τ x = refl

  -- what is told to the outside says how the last entry ended
  pub outs_outcome : (τ : List (Event O)) (x : Outcome) → outcome_of (outs_of τ) x ≡ outcome_of τ x
  outs_outcome [] x = refl
  outs_outcome (ev ∷ τ) x = told_outcome ev.place ev.what (outs_of τ) x ∙ outs_outcome τ (outcome_at ev.place ev.what x)

  pub uncut_append : (a b : List (Event O)) → IsUncut a → IsUncut b → IsUncut (a ++ b)
  uncut_append [] b f g = g
  uncut_append (ev ∷ a) b f g = (f.0, uncut_append a b f.1 g)

  -- The player goes from o to u by these happenings, none of which cuts off anything, and j more entries are begun in them than ended.
  pub record Way (j : ℕ) (o : Player O) (τ : List (Event O)) (u : Player O) : Type 0 where
    pub moves : o.left ≡ handed τ u.left
    pub steps : Budget o.steps ≡ allowed τ (Budget u.steps)
    pub outs : u.outs ≡ o.outs ++ outs_of τ
    pub goes_on : u.fate ≡ None
    pub uncut : IsUncut τ
    pub owed : begun τ ≡ ended τ + j

  pub here : (o : Player O) → o.fate ≡ None → Way 0 o [] o
  here o f = record { moves = refl; steps = refl; outs = sym (append-nil o.outs); goes_on = f; uncut = tt; owed = refl }

  pub then_way : (j k : ℕ) (o u v : Player O) (a b : List (Event O)) → Way j o a u → Way k u b v → Way (j + k) o (a ++ b) v
  then_way j k o u v a b f g = record {
    moves = f.moves ∙ ap (handed a) g.moves ∙ sym (handed-append a b v.left);
    steps = f.steps ∙ ap (allowed a) g.steps ∙ sym (allowed-append a b (Budget v.steps));
    outs = g.outs ∙ ap (λ l. l ++ outs_of b) f.outs ∙ append_assoc o.outs (outs_of a) (outs_of b) ∙ ap (λ l. o.outs ++ l) (sym (outs_append a b));
    goes_on = g.goes_on;
    uncut = uncut_append a b f.uncut g.uncut;
    owed =
        let e1 : begun (a ++ b) ≡ begun a + begun b = begun_append a b in
        let e2 : ended (a ++ b) ≡ ended a + ended b = ended_append a b in
        let e3 : begun a ≡ ended a + j = f.owed in
        let e4 : begun b ≡ ended b + k = g.owed in
        omega arith;
  }

  -- what a player makes of one happening
  pub record Meets (p : Place) (x : What O) (o u : Player O) : Type 0 where
    pub left : u.left ≡ o.left
    pub steps : Budget o.steps ≡ granted p x (Budget u.steps)
    pub outs : u.outs ≡ o.outs
    pub fate : u.fate ≡ o.fate

  same_player : (p : Place) (x : What O) (o u : Player O) → u ≡ o → ((n : ℕ) → Budget n ≡ granted p x (Budget n)) → Meets p x o u
  same_player p x o u e f = record { left = ap (λ z. z.left) e; steps = f o.steps ∙ ap (λ z. granted p x (Budget z.steps)) (sym e); outs = ap (λ z. z.outs) e; fate = ap (λ z. z.fate) e }

  by_plain : (T : Tree O) (s : Wait) (p : Place) (x : What O) (o u : Player O) → IsPlain x → Uncut p x → Crossings plays T o s (event p x) u → Meets p x o u
  by_plain T s p (Out h d i) o u f g c = absurd f
  by_plain T s p (Back h a) o u f g c = absurd f
  by_plain T s p (In h i) o u f g c = absurd f
  by_plain T s p (Done h r) o u f g c = absurd f
  by_plain T s p (Unfound t i y) o u f g c = absurd f
  by_plain T s p Charged o u f g c =
      let e : u ≡ record { left = o.left; steps = u.steps; outs = o.outs; fate = o.fate } = c.told.2 in
      record { left = ap (λ z. z.left) e; steps = ap Budget c.told.1; outs = ap (λ z. z.outs) e; fate = ap (λ z. z.fate) e }
  by_plain T s p (Refused m None) o u f g c = absurd (g refl)
  by_plain T s p (Refused m (Some n)) o u f g c = same_player p (Refused m (Some n)) o u c.told (λ k. sym (denied_budget (rise_to (Some n) p) k))
  by_plain T s p x o u f g c = same_player p x o u c.told (λ k. refl)

  plain_told : (p : Place) (x : What O) → IsPlain x → told p x [] ≡ []
  plain_told p (Out h d i) f = absurd f
  plain_told p (Done h r) f = absurd f
  plain_told p (Unfound t i y) f = absurd f
  plain_told p x f = refl

  plain_open : (p : Place) (x : What O) → IsPlain x → begun (event p x ∷ []) ≡ ended (event p x ∷ []) + 0
  plain_open p (In h d) f = absurd f
  plain_open p (Done h r) f = absurd f
  plain_open p x f = refl

  met : (p : Place) (x : What O) (o u : Player O) → Meets p x o u → (l : List (Move O)) → o.left ≡ asked p x l → u.left ≡ l → told p x [] ≡ [] → Uncut p x → begun (event p x ∷ []) ≡ ended (event p x ∷ []) + 0 → o.fate ≡ None → Way 0 o (event p x ∷ []) u
  met p x o u m l e1 e2 t f b n = record {
    moves = e1 ∙ ap (asked p x) (sym e2);
    steps = m.steps;
    outs = m.outs ∙ sym (append-nil o.outs) ∙ ap (λ j. o.outs ++ j) (sym t);
    goes_on = m.fate ∙ n;
    uncut = (f, tt);
    owed = b;
  }

  -- a happening that is no crossing
  pub plain_way : (T : Tree O) (s : Wait) (p : Place) (x : What O) (o u : Player O) → IsPlain x → Uncut p x → ((ms : List (Move O)) → asked p x ms ≡ ms) → Crossings plays T o s (event p x) u → o.fate ≡ None → Way 0 o (event p x ∷ []) u
  plain_way T s p x o u f g silent c n =
      let m : Meets p x o u = by_plain T s p x o u f g c in
      met p x o u m o.left (sym (silent o.left)) m.left (plain_told p x f) g (plain_open p x f) n

  pub closes_same : (T : Tree O) (s : Wait) (p : Place) (b : Wrap O) (m n : Option (Node O)) (o u : Player O) → Crossings plays T o s (event p (closes b m n)) u → u ≡ o
  closes_same T s p b m n o u = any_close (λ x. Crossings plays T o s (event p x) u → u ≡ o) b m n (λ c. c.told) (λ c. c.told) (λ y c. c.told)

  pub closes_uncut : (p : Place) (b : Wrap O) (m n : Option (Node O)) → Uncut p (closes b m n)
  closes_uncut p b m n = any_close (Uncut p) b m n tt tt (λ y. tt)

  -- a crossing between two interpreters of the tree
  abbrev pub IsInner : Place → What O → Place → Type 0
  IsInner p (Out h d i) a = rise_to h p ≡ Some a
  IsInner p (Back h y) a = rise_to h p ≡ Some a
  IsInner p (In h i) a = rise_to h p ≡ Some a
  IsInner p (Done h r) a = rise_to h p ≡ Some a
  IsInner p x a = Prim.⊥

  pub inner_same : (T : Tree O) (s : Wait) (p : Place) (x : What O) (a : Place) (o u : Player O) → IsInner p x a → Crossings plays T o s (event p x) u → u ≡ o
  inner_same T s p (Out h d i) a o u e c = subst (λ l. past l o u (Tells o.fate o (event p (Out h d i)) u)) e c.told
  inner_same T s p (Back h y) a o u e c = subst (λ l. past l o u (Answers T p o s y u)) e c.told
  inner_same T s p (In h i) a o u e c = subst (λ l. past l o u (HandsIn o p i u)) e c.told
  inner_same T s p (Done h r) a o u e c = subst (λ l. past l o u (Tells o.fate o (event p (Done h r)) u)) e c.told
  inner_same T s p x a o u e c = absurd e

  pub inner_asked : (p : Place) (x : What O) (a : Place) → IsInner p x a → (ms : List (Move O)) → asked p x ms ≡ ms
  inner_asked p (Out h d i) a e ms = refl
  inner_asked p (Back h y) a e ms = ap (λ l. where_none l (Come y) ms) e
  inner_asked p (In h i) a e ms = ap (λ l. where_none l (Enter p i) ms) e
  inner_asked p (Done h r) a e ms = refl
  inner_asked p x a e ms = absurd e

  inner_told : (p : Place) (x : What O) (a : Place) → IsInner p x a → told p x [] ≡ []
  inner_told p (Out h d i) a e = ap (λ l. put l p (Out h d i) []) e
  inner_told p (Back h y) a e = refl
  inner_told p (In h i) a e = refl
  inner_told p (Done h r) a e = ap (λ l. put l p (Done h r) []) e
  inner_told p x a e = absurd e

  inner_open : (p : Place) (x : What O) (a : Place) → IsInner p x a → begun (event p x ∷ []) ≡ ended (event p x ∷ []) + 0
  inner_open p (Out h d i) a e = refl
  inner_open p (Back h y) a e = refl
  inner_open p (In h i) a e = ap (λ l. one_more l 0) e
  inner_open p (Done h r) a e = let f : one_more (rise_to h p) 0 ≡ 0 = ap (λ l. one_more l 0) e in omega (arith, f)
  inner_open p x a e = absurd e

  inner_granted : (p : Place) (x : What O) (a : Place) → IsInner p x a → (n : ℕ) → Budget n ≡ granted p x (Budget n)
  inner_granted p (Out h d i) a e n = refl
  inner_granted p (Back h y) a e n = refl
  inner_granted p (In h i) a e n = refl
  inner_granted p (Done h r) a e n = refl
  inner_granted p x a e n = absurd e

  pub inner_uncut : (p : Place) (x : What O) (a : Place) → IsInner p x a → Uncut p x
  inner_uncut p (Done h (Cut c)) a e = not_out (rise_to h p) a e
  inner_uncut p (Back h (Replied (Cut c))) a e = not_out (rise_to h p) a e
  inner_uncut p (Out h d i) a e = tt
  inner_uncut p (In h i) a e = tt
  inner_uncut p (Done h r) a e = tt
  inner_uncut p (Back h y) a e = tt
  inner_uncut p x a e = absurd e

  pub inner_way : (T : Tree O) (s : Wait) (p : Place) (x : What O) (a : Place) (o u : Player O) → IsInner p x a → Crossings plays T o s (event p x) u → o.fate ≡ None → Way 0 o (event p x ∷ []) u
  inner_way T s p x a o u e c n =
      let m : Meets p x o u = same_player p x o u (inner_same T s p x a o u e c) (inner_granted p x a e) in
      met p x o u m o.left (sym (inner_asked p x a e o.left)) m.left (inner_told p x a e) (inner_uncut p x a e) (inner_open p x a e) n

  pub tells_on : (f : Option (Fate O)) (o u : Player O) (ev : Event O) → f ≡ None → Tells f o ev u → u ≡ telling o ev
  tells_on None o u ev e t = t
  tells_on (Some f) o u ev e t = absurd (bad e)
    where
      bad : Some f ≡ None → Prim.⊥
      bad g = cc

  pub tells_over : (g : Option (Fate O)) (f : Fate O) (o u : Player O) (ev : Event O) → g ≡ Some f → Tells g o ev u → u ≡ o
  tells_over (Some g) f o u ev e t = t
  tells_over None f o u ev e t = absurd (bad e)
    where
      bad : None ≡ Some f → Prim.⊥
      bad h = cc

  pub out_way : (T : Tree O) (s : Wait) (p : Place) (h : Height) (d : Path) (i : Entry) (o u : Player O) → rise_to h p ≡ None → Crossings plays T o s (event p (Out h d i)) u → o.fate ≡ None → Way 0 o (event p (Out h d i) ∷ []) u
  out_way T s p h d i o u e c n =
      let f : u ≡ telling o (event p (Out h d i)) = tells_on o.fate o u (event p (Out h d i)) n (subst (λ l. past l o u (Tells o.fate o (event p (Out h d i)) u)) e c.told) in
      record {
        moves = ap (λ z. z.left) (sym f);
        steps = ap (λ z. Budget z.steps) (sym f);
        outs = ap (λ z. z.outs) f ∙ ap (λ l. o.outs ++ put l p (Out h d i) []) (sym e);
        goes_on = ap (λ z. z.fate) f ∙ n;
        uncut = (tt, tt);
        owed = refl;
      }
