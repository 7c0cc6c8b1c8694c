-- Depths come back to what they were, and what is in use stays.
use Rattle.std.proofs.Common.{pred, sym, ◌≡◌, ℕ, zero, suc, ℤ, ◌≤◌, Bool, true, false, List, [], ◌∷◌, ◌++◌, Option, Some, None, refl, ◌∙◌, ap, subst, arith, append-nil, append_assoc, nat_lt}
use Rattle.std.specs.Prelude.{◌&&◌}
use Rattle.tcl_core.specs.Paths.{Path, Place, strip, rise_to}
use Rattle.tcl_core.specs.Endings.{Reply}
use Rattle.tcl_core.specs.Endings.Meter.{Count, Depth}
use Rattle.tcl_core.specs.Endings.Kind.{Full}
use Rattle.tcl_core.specs.Endings.Reply.{Completed, Stop, Exit, Cut}
use Rattle.tcl_core.specs.Endings.Cause.{Above, Over}
use Rattle.tcl_core.specs.Entries.Answer.{Replied}
use Rattle.tcl_core.specs.Trees.{Grants, Tree, Node, What, Move, Event, asked, where_none, at_top, at_end, where_some, on_node, on_line, on_some, effect, counted, deeper, shallower, fresh, depth_of}
use Rattle.tcl_core.specs.Trees.Grant.{Allow, Deny}
use Rattle.tcl_core.specs.Trees.Grants.{Listed, Budget}
use Rattle.tcl_core.specs.Trees.What.{Seen, Changed, Charged, Refused, Nested, Unnested, Limited, DepthLimited, Made, Dropped, In, Back}
use Rattle.tcl_core.specs.Trees.Move.{Born, Fall, Enter, Come}
use Rattle.tcl_core.specs.Programs.{Deed, spot, Act, Wrap, Wait, Next, Prog, Table, decide, opens, closes, changing, making, dropping, either, metered, by_limit, blocked, is_spent, is_deep, brought_back}
use Rattle.tcl_core.specs.Programs.Next.{On, TooDeep, Off}
use Rattle.tcl_core.specs.Programs.Act.{Look, Change, Charge, Limit, LimitDepth, Make, Drop}
use Rattle.tcl_core.specs.Programs.Wrap.{Deeper, Framed}
use Rattle.tcl_core.specs.Runs.{World, Step, Ending, Halts, Exits, Exiting, ends_call, height_of}
use Rattle.tcl_core.specs.Rules.{Derives}
use Rattle.tcl_core.specs.Rules.Derives.{completed, exited, acted, refused, unheard, went, passed, halted, wrapped, wrapped_passed, wrapped_halted, too_deep, shut, unheard_inside, called, called_passed, called_halted, unreached, called_out, unanswered, unfit, answered, heard, missed, answered_passed, entered, entered_halted, entered_exiting, born, fallen, unfound}
use Rattle.tcl_core.specs.Laws.{depth_left, is_spared, none_there, spares, Stands, IsStanding, Beneath, IsUpright, KeepsTop, Steady}
use Rattle.tcl_core.proofs.PathLaws.{not_both, Some-inj, strip_own, strip-sound, child_in}
use Rattle.tcl_core.proofs.RuleLaws.{runs_derived}

-- PLACES
strip_trans : (p q r a b : Place) → strip p q ≡ Some a → strip q r ≡ Some b → strip p r ≡ Some (a ++ b)
strip_trans p q r a b e f =
    let g : r ≡ p ++ (a ++ b) = strip-sound q r b f ∙ ap (λ l. l ++ b) (strip-sound p q a e) ∙ append_assoc p a b in
    ap (strip p) g ∙ strip_own p (a ++ b)

limit_on : {A : Type 0} (n : ℕ) → by_limit Depth n ≡ On → A
limit_on zero e = absurd (bad e)
  where
    bad : TooDeep ≡ On → Prim.⊥
    bad f = cc
limit_on (suc n) e = absurd (bad e)
  where
    bad : Off (Stop (suc n) (Full Depth)) ≡ On → Prim.⊥
    bad f = cc

off_on : {A : Type 0} (r : Reply) → Off r ≡ On → A
off_on r e = absurd (bad e)
  where
    bad : Off r ≡ On → Prim.⊥
    bad f = cc

off_not : (n : Next) (r : Reply) → n ≡ Off r → n ≡ On → Prim.⊥
off_not n r e f = off_on r (sym e ∙ f)

deep_not : (n : Next) → n ≡ TooDeep → n ≡ On → Prim.⊥
deep_not n e f = bad (sym e ∙ f)
  where
    bad : TooDeep ≡ On → Prim.⊥
    bad g = cc

bad_test : false ≡ true → Prim.⊥
bad_test e = cc

and_parts : (a b : Bool) → (a && b) ≡ true → (a ≡ true) × (b ≡ true)
and_parts true b e = (refl, e)
and_parts false b e = absurd (bad_test e)

and_both : (a b : Bool) → a ≡ true → b ≡ true → (a && b) ≡ true
and_both true b e f = f
and_both false b e f = absurd (bad_test e)

and_assoc : (a b c : Bool) → (a && (b && c)) ≡ ((a && b) && c)
and_assoc true b c = refl
and_assoc false b c = refl

and_last : (a : Bool) → (a && true) ≡ a
and_last true = refl
and_last false = refl

left_left : (a b : Bool) (d : ℕ) → depth_left b (depth_left a d) ≡ depth_left (a && b) d
left_left true b d = refl
left_left false true d = refl
left_left false false d = refl

-- what is spared below is spared above
abbrev Rises : (Place → Bool) → Type 0
Rises b = (p q z : Place) → strip p q ≡ Some z → b q ≡ true → b p ≡ true

left_nested : (a b : Bool) (m n x y : ℕ) → (b ≡ true → a ≡ true) → m ≤ n → x ≡ depth_left b m → y ≡ depth_left a n → x ≤ y
left_nested a false m n x y f le e g = omega arith
left_nested true true m n x y f le e g = omega arith
left_nested false true m n x y f le e g = let z : false ≡ true = f refl in cc

module _ {O : Type 0} where
  -- TREES
  pub record Sound (T : Tree O) : Type 0 where
    pub closed : (p q z : Place) → strip p q ≡ Some z → T p ≡ None → T q ≡ None
    pub nested : (p q z : Place) → strip p q ≡ Some z → depth_of (T q) ≤ depth_of (T p)

  abbrev pub Closed : Tree O → Type 0
  Closed T = (p q z : Place) → strip p q ≡ Some z → T p ≡ None → T q ≡ None

  -- the same depths everywhere, but where that is dropped
  abbrev pub AsDeep : (Place → Bool) → Tree O → Tree O → Type 0
  AsDeep b T V = (q : Place) → depth_of (V q) ≡ depth_left (b q) (depth_of (T q))

  beneath_closed : (a b : Option (Node O)) → Beneath a b → a ≡ None → b ≡ None
  beneath_closed a None f e = refl
  beneath_closed None (Some n) f e = absurd f
  beneath_closed (Some m) (Some n) f e = absurd (not_both e refl)

  beneath_nested : (a b : Option (Node O)) → Beneath a b → depth_of b ≤ depth_of a
  beneath_nested a None f = omega arith
  beneath_nested None (Some n) f = absurd f
  beneath_nested (Some m) (Some n) f = f

  sound_of : (T : Tree O) → IsUpright T → Sound T
  sound_of T f = record { closed = λ p q z e. beneath_closed (T p) (T q) (f p q z e); nested = λ p q z e. beneath_nested (T p) (T q) (f p q z e) }

  beneath : (a b : Option (Node O)) → (a ≡ None → b ≡ None) → depth_of b ≤ depth_of a → Beneath a b
  beneath a None f g = tt
  beneath None (Some n) f g = not_both (f refl) refl
  beneath (Some m) (Some n) f g = g

  upright_of : (T : Tree O) → Sound T → IsUpright T
  upright_of T s p q z e = beneath (T p) (T q) (s.closed p q z e) (s.nested p q z e)

  sound_after : (b : Place → Bool) (T V : Tree O) → Rises b → Sound T → Closed V → AsDeep b T V → Sound V
  sound_after b T V r s c d = record {
    closed = c;
    nested = λ p q z e. left_nested (b p) (b q) (depth_of (T q)) (depth_of (T p)) (depth_of (V q)) (depth_of (V p)) (r p q z e) (s.nested p q z e) (d q) (d p);
  }

  spares_above : (p : Place) (x : What O) → Rises (λ q. spares q p x)
  spares_above p Dropped a q z e f = by (strip p a) refl
    where
      by : (o : Option Place) → strip p a ≡ o → none_there (strip p a) ≡ true
      by None g = ap none_there g
      by (Some y) g = let h : false ≡ true = ap none_there (sym (strip_trans p a q y z g e)) ∙ f in absurd (bad_test h)
  spares_above p x a q z e f = refl

  spared_above : (τ : List (Event O)) → Rises (λ q. is_spared q τ)
  spared_above [] p q z e f = refl
  spared_above (ev ∷ τ) p q z e f =
      let h : (spares q ev.place ev.what ≡ true) × (is_spared q τ ≡ true) = and_parts (spares q ev.place ev.what) (is_spared q τ) f in
      and_both (spares p ev.place ev.what) (is_spared p τ) (spares_above ev.place ev.what p q z e h.0) (spared_above τ p q z e h.1)

  spared_append : (q : Place) (a b : List (Event O)) → is_spared q (a ++ b) ≡ (is_spared q a && is_spared q b)
  spared_append q [] b = refl
  spared_append q (ev ∷ a) b = ap (λ y. spares q ev.place ev.what && y) (spared_append q a b) ∙ and_assoc (spares q ev.place ev.what) (is_spared q a) (is_spared q b)

  standing_append : (c : Place) (a b : List (Event O)) → IsStanding c a → IsStanding c b → IsStanding c (a ++ b)
  standing_append c [] b f g = g
  standing_append c (ev ∷ a) b f g = (f.0, standing_append c a b f.1 g)

  -- a happening that leaves the depths, and what is in use
  pub record Calm (T : Tree O) (p : Place) (x : What O) : Type 0 where
    pub closed : Closed (effect p x T)
    pub depths : AsDeep (λ q. spares q p x) T (effect p x T)
    pub stands : (c : Place) → 1 ≤ depth_of (T c) → spares c p x ≡ true → Stands c p x

  -- a change of nodes where they stand
  abbrev IsChange : (Option (Node O) → Option (Node O)) → Type 0
  IsChange f = (o : Option (Node O)) → (f o ≡ None → o ≡ None) × (o ≡ None → f o ≡ None)

  some_change : (f : Node O → Node O) → IsChange (on_some f)
  some_change f None = ((λ e. refl), (λ e. refl))
  some_change f (Some n) = ((λ e. absurd (not_both e refl)), (λ e. absurd (not_both e refl)))

  end_change : (s : Option Path) (f : Option (Node O) → Option (Node O)) → IsChange f → IsChange (at_end s f)
  end_change None f g o = ((λ e. e), (λ e. e))
  end_change (Some []) f g o = g o
  end_change (Some (x ∷ xs)) f g o = ((λ e. e), (λ e. e))

  some_where : (s : Option Path) (f : Option (Node O) → Option (Node O)) → IsChange f → IsChange (where_some s f)
  some_where None f g o = ((λ e. e), (λ e. e))
  some_where (Some q) f g o = g o

  closed_by : (T V : Tree O) → Closed T → ((q : Place) → (V q ≡ None → T q ≡ None) × (T q ≡ None → V q ≡ None)) → Closed V
  closed_by T V c f p q z e g = let a = f p in let b = f q in b.1 (c p q z e (a.0 g))

  end_depth : (s : Option Path) (f : Option (Node O) → Option (Node O)) → ((o : Option (Node O)) → depth_of (f o) ≡ depth_of o) → (o : Option (Node O)) → depth_of (at_end s f o) ≡ depth_of o
  end_depth None f g o = refl
  end_depth (Some []) f g o = g o
  end_depth (Some (x ∷ xs)) f g o = refl

  where_depth : (s : Option Path) (f : Option (Node O) → Option (Node O)) → ((o : Option (Node O)) → depth_of (f o) ≡ depth_of o) → (o : Option (Node O)) → depth_of (where_some s f o) ≡ depth_of o
  where_depth None f g o = refl
  where_depth (Some q) f g o = g o

  some_depth : (f : Node O → Node O) → ((n : Node O) → (f n).depth ≡ n.depth) → (o : Option (Node O)) → depth_of (on_some f o) ≡ depth_of o
  some_depth f g None = refl
  some_depth f g (Some n) = g n

  -- Closedness of a line's change
  line_closed : (p : Place) (f : Node O → Node O) (T : Tree O) → Closed T → Closed (on_line p (on_some f) T)
  line_closed p f T c = closed_by T (on_line p (on_some f) T) c (λ q. some_where (strip q p) (on_some f) (some_change f) (T q))

  node_calm : (T : Tree O) (p : Place) (x : What O) (f : Node O → Node O) → Sound T → effect p x T ≡ on_node p (on_some f) T → ((n : Node O) → (f n).depth ≡ n.depth) → ((c : Place) → Stands c p x) → ((c : Place) → spares c p x ≡ true) → Calm T p x
  node_calm T p x f s e g h k = record {
    closed = subst Closed (sym e) (closed_by T (on_node p (on_some f) T) s.closed (λ q. end_change (strip p q) (on_some f) (some_change f) (T q)));
    depths = subst (AsDeep (λ q. spares q p x) T) (sym e) (λ q. end_depth (strip p q) (on_some f) (some_depth f g) (T q) ∙ sym (ap (λ b. depth_left b (depth_of (T q))) (k q)));
    stands = λ c l j. h c;
  }

  line_calm : (T : Tree O) (p : Place) → Sound T → Calm T p Charged
  line_calm T p s = record {
    closed = line_closed p (λ n. record n { count = suc n.count }) T s.closed;
    depths = λ q. where_depth (strip q p) counted (some_depth (λ n. record n { count = suc n.count }) (λ n. refl)) (T q);
    stands = λ c l f. tt;
  }

  same_calm : (T : Tree O) (p : Place) (x : What O) → Sound T → effect p x T ≡ T → ((c : Place) → Stands c p x) → ((c : Place) → spares c p x ≡ true) → Calm T p x
  same_calm T p x s e f k = record { closed = subst Closed (sym e) s.closed; depths = subst (AsDeep (λ q. spares q p x) T) (sym e) (λ q. sym (ap (λ b. depth_left b (depth_of (T q))) (k q))); stands = λ c l j. f c }

  -- a child is dropped, and all below it
  drop_calm : (T : Tree O) (t : Place) → Sound T → Calm T t Dropped
  drop_calm T t s = record {
    closed = λ p q z f g. gone p q z f g (strip t q) refl;
    depths = λ q. depth (strip t q) (T q);
    stands = λ c l f. stays (strip t c) f;
  }
    where
      depth : (o : Option Place) (n : Option (Node O)) → depth_of (where_some o (λ x. None) n) ≡ depth_left (none_there o) (depth_of n)
      depth None n = refl
      depth (Some z) n = refl

      stays : (o : Option Place) → none_there o ≡ true → o ≡ None
      stays None f = refl
      stays (Some z) f = absurd (bad_test f)

      was : (p q z : Place) → strip p q ≡ Some z → strip t q ≡ None → (o : Option Place) → strip t p ≡ o → where_some o (λ x. None) (T p) ≡ None → T p ≡ None
      was p q z f g None h k = k
      was p q z f g (Some a) h k = absurd (not_both g (strip_trans t p q a z h f))

      gone : (p q z : Place) → strip p q ≡ Some z → effect t Dropped T p ≡ None → (o : Option Place) → strip t q ≡ o → where_some o (λ x. None) (T q) ≡ None
      gone p q z f g (Some a) h = refl
      gone p q z f g None h = s.closed p q z f (was p q z f h (strip t p) refl g)

  -- a child is made where none stands
  make_calm : (T : Tree O) (p : Place) (name : List ℕ) (o : O) (b : Bool) (m : Node O) → Sound T → T p ≡ Some m → T (p ++ name ∷ []) ≡ None → Calm T (p ++ name ∷ []) (Made o b)
  make_calm T p name o b m s e f = record {
    closed = λ a q z g h. gone a q z g h (strip t q) refl;
    depths = λ q. depth q (strip t q) refl;
    stands = λ c l k g. (let d : T c ≡ None = ap T (strip-sound t c [] g ∙ append-nil t) ∙ f in let n : depth_of (T c) ≡ 0 = ap depth_of d in omega arith);
  }
    where
      t : Place
      t = p ++ name ∷ []

      depth : (q : Place) (s : Option Place) → strip t q ≡ s → depth_of (at_end s (λ x. Some (fresh o b)) (T q)) ≡ depth_of (T q)
      depth q None g = refl
      depth q (Some []) g = sym (ap depth_of (ap T (strip-sound t q [] g ∙ append-nil t) ∙ f))
      depth q (Some (y ∷ ys)) g = refl

      was : (a : Place) (s : Option Place) → strip t a ≡ s → at_end s (λ x. Some (fresh o b)) (T a) ≡ None → T a ≡ None
      was a None g h = h
      was a (Some []) g h = absurd (not_both h refl)
      was a (Some (y ∷ ys)) g h = h

      own : strip t t ≡ Some []
      own = subst (λ r. strip t r ≡ Some []) (append-nil t) (strip_own t [])

      above : (a z : Place) → strip a t ≡ Some z → effect t (Made o b) T a ≡ None → (y : Option Place) → strip a p ≡ y → T p ≡ None
      above a z g h (Some y) k = s.closed a p y k (was a (strip t a) refl h)
      above a z g h None k =
          let q : t ≡ a = strip-sound a t z g ∙ ap (λ l. a ++ l) (child_in a p z name k g) ∙ append-nil a in
          let r : strip t a ≡ Some [] = subst (λ l. strip t l ≡ Some []) q own in
          absurd (not_both (subst (λ l. at_end l (λ x. Some (fresh o b)) (T a) ≡ None) r h) refl)

      gone : (a q z : Place) → strip a q ≡ Some z → effect t (Made o b) T a ≡ None → (s : Option Place) → strip t q ≡ s → at_end s (λ x. Some (fresh o b)) (T q) ≡ None
      gone a q z g h None k = s.closed a q z g (was a (strip t a) refl h)
      gone a q z g h (Some (y ∷ ys)) k = s.closed a q z g (was a (strip t a) refl h)
      gone a q z g h (Some []) k = absurd (not_both (above a z (subst (λ l. strip a l ≡ Some z) (strip-sound t q [] k ∙ append-nil t) g) h (strip a p) refl) e)

  -- WHAT AN ACT COMES TO
  of_deed : (T : Tree O) (p : Place) (y x : Deed O) → Calm T (spot p y.0) y.1 → Some y ≡ Some x → Calm T (spot p x.0) x.1
  of_deed T p y x f e = subst (λ z. Calm T (spot p z.0) z.1) (Some-inj y e) f

  changing_calm : (T : Tree O) (p : Place) (o : O) (n : Option (Node O)) → Sound T → Calm T (spot p (changing o n).0) (changing o n).1
  changing_calm T p o None s = same_calm T p Seen s refl (λ c. tt) (λ q. refl)
  changing_calm T p o (Some n) s = node_calm T p (Changed o) (λ n. record n { own = o }) s refl (λ n. refl) (λ c. tt) (λ q. refl)

  charge_calm : (T : Tree O) (p : Place) (b : Option ℕ) (gs : Grants) (x : Deed O) → Sound T → metered Count Charged b gs ≡ Some x → Calm T (spot p x.0) x.1
  charge_calm T p (Some n) gs x s e = of_deed T p (None, Refused Count (Some n), by_limit Count n) x (same_calm T p (Refused Count (Some n)) s refl (λ c. tt) (λ q. refl)) e
  charge_calm T p None (Listed []) x s e = absurd (not_both refl e)
  charge_calm T p None (Listed (Allow ∷ gs)) x s e = of_deed T p (None, Charged, On) x (line_calm T p s) e
  charge_calm T p None (Listed (Deny ∷ gs)) x s e = of_deed T p (None, Refused Count None, Off (Cut Above)) x (same_calm T p (Refused Count None) s refl (λ c. tt) (λ q. refl)) e
  charge_calm T p None (Budget zero) x s e = of_deed T p (None, Refused Count None, Off (Cut Over)) x (same_calm T p (Refused Count None) s refl (λ c. tt) (λ q. refl)) e
  charge_calm T p None (Budget (suc n)) x s e = of_deed T p (None, Charged, On) x (line_calm T p s) e

  making_calm : (T : Tree O) (p : Place) (name : List ℕ) (o : O) (b : Bool) (m n : Option (Node O)) → Sound T → T p ≡ m → T (p ++ name ∷ []) ≡ n → Calm T (spot p (making name o b m n).0) (making name o b m n).1
  making_calm T p name o b None n s e f = same_calm T p Seen s refl (λ c. tt) (λ q. refl)
  making_calm T p name o b (Some m) None s e f = make_calm T p name o (either b m.safe) m s e f
  making_calm T p name o b (Some m) (Some n) s e f = same_calm T p Seen s refl (λ c. tt) (λ q. refl)

  dropping_calm : (T : Tree O) (p : Place) (name : List ℕ) (n : Option (Node O)) → Sound T → T (p ++ name ∷ []) ≡ n → Calm T (spot p (dropping name n).0) (dropping name n).1
  dropping_calm T p name None s e = same_calm T p Seen s refl (λ c. tt) (λ q. refl)
  dropping_calm T p name (Some n) s e = drop_calm T (p ++ name ∷ []) s

  decide_calm : (d : Act O) (T : Tree O) (p : Place) (gs : Grants) (x : Deed O) → Sound T → decide d T p gs ≡ Some x → Calm T (spot p x.0) x.1
  decide_calm Look T p gs x s e = of_deed T p (None, Seen, On) x (same_calm T p Seen s refl (λ c. tt) (λ q. refl)) e
  decide_calm (Change o) T p gs x s e = of_deed T p (changing o (T p)) x (changing_calm T p o (T p) s) e
  decide_calm Charge T p gs x s e = charge_calm T p (blocked is_spent T p) gs x s e
  decide_calm (Limit l) T p gs x s e = of_deed T p (None, Limited l, On) x (node_calm T p (Limited l) (λ n. record n { limit = l }) s refl (λ n. refl) (λ c. tt) (λ q. refl)) e
  decide_calm (LimitDepth l) T p gs x s e = of_deed T p (None, DepthLimited l, On) x (node_calm T p (DepthLimited l) (λ n. record n { depth_limit = l }) s refl (λ n. refl) (λ c. tt) (λ q. refl)) e
  decide_calm (Make name o b) T p gs x s e = of_deed T p (making name o b (T p) (T (p ++ name ∷ []))) x (making_calm T p name o b (T p) (T (p ++ name ∷ [])) s refl refl) e
  decide_calm (Drop name) T p gs x s e = of_deed T p (dropping name (T (p ++ name ∷ []))) x (dropping_calm T p name (T (p ++ name ∷ [])) s refl) e

  -- what a wrap comes to: one level more, or nothing to the depths
  abbrev Opening : Wrap O → Tree O → Place → Deed O → Type 0
  Opening Deeper T p x = (x.2 ≡ On → (x.0 ≡ None) × (x.1 ≡ Nested)) × ((x.2 ≡ On → Prim.⊥) → Calm T (spot p x.0) x.1)
  Opening (Framed o back) T p x = Calm T (spot p x.0) x.1

  abbrev Deep : Tree O → Place → Deed O → Type 0
  Deep T p x = Opening Deeper T p x

  deep_of : (T : Tree O) (p : Place) (y x : Deed O) → Deep T p y → Some y ≡ Some x → Deep T p x
  deep_of T p y x f e = subst (Deep T p) (Some-inj y e) f

  nest_deep : (T : Tree O) (p : Place) (b : Option ℕ) (gs : Grants) (x : Deed O) → Sound T → metered Depth Nested b gs ≡ Some x → Deep T p x
  nest_deep T p (Some n) gs x s e = deep_of T p (None, Refused Depth (Some n), by_limit Depth n) x ((λ f. limit_on n f), (λ f. same_calm T p (Refused Depth (Some n)) s refl (λ c. tt) (λ q. refl))) e
  nest_deep T p None (Listed []) x s e = absurd (not_both refl e)
  nest_deep T p None (Listed (Allow ∷ gs)) x s e = deep_of T p (None, Nested, On) x ((λ f. (refl, refl)), (λ f. absurd (f refl))) e
  nest_deep T p None (Listed (Deny ∷ gs)) x s e = deep_of T p (None, Refused Depth None, Off (Cut Above)) x ((λ f. off_on (Cut Above) f), (λ f. same_calm T p (Refused Depth None) s refl (λ c. tt) (λ q. refl))) e
  nest_deep T p None (Budget n) x s e = deep_of T p (None, Nested, On) x ((λ f. (refl, refl)), (λ f. absurd (f refl))) e

  opening : (b : Wrap O) (T : Tree O) (p : Place) (gs : Grants) (x : Deed O) → Sound T → opens b T p gs ≡ Some x → Opening b T p x
  opening Deeper T p gs x s e = nest_deep T p (blocked is_deep T p) gs x s e
  opening (Framed o back) T p gs x s e = of_deed T p (changing o (T p)) x (changing_calm T p o (T p) s) e

  -- one that doesn't open
  unopened : (b : Wrap O) (T : Tree O) (p : Place) (x : Deed O) → (x.2 ≡ On → Prim.⊥) → Opening b T p x → Calm T (spot p x.0) x.1
  unopened Deeper T p x f g = g.1 f
  unopened (Framed o back) T p x f g = g

  brought_calm : (T : Tree O) (p : Place) (t : Bool) (back : O → O) (n : Option (Node O)) → Sound T → Calm T p (brought_back t back n)
  brought_calm T p t back None s = same_calm T p Seen s refl (λ c. tt) (λ q. refl)
  brought_calm T p true back (Some n) s = same_calm T p Seen s refl (λ c. tt) (λ q. refl)
  brought_calm T p false back (Some n) s = node_calm T p (Changed (back n.own)) (λ n2. record n2 { own = back n.own }) s refl (λ n2. refl) (λ c. tt) (λ q. refl)

  framed_calm : (T : Tree O) (p : Place) (o : O) (back : O → O) (m n : Option (Node O)) → Sound T → Calm T p (closes (Framed o back) m n)
  framed_calm T p o back m n s = brought_calm T p (nat_lt (depth_of n) (depth_of m)) back n s

  -- ONE LEVEL MORE, AND BACK
  deep_depth : (s : Option Path) (o : Option (Node O)) → (o ≡ None → Prim.⊥) → (z : Path) → s ≡ Some z → depth_of (where_some s deeper o) ≡ suc (depth_of o)
  deep_depth s None f z e = absurd (f refl)
  deep_depth s (Some n) f z e = subst (λ l. depth_of (where_some l deeper (Some n)) ≡ suc n.depth) (sym e) refl

  deep_least : (s : Option Path) (o : Option (Node O)) → depth_of o ≤ depth_of (where_some s deeper o)
  deep_least None o = omega arith
  deep_least (Some z) None = omega arith
  deep_least (Some z) (Some n) = omega arith

  deep_sound : (T : Tree O) (p : Place) → Sound T → Sound (effect p Nested T)
  deep_sound T p s = record { closed = line_closed p (λ n. record n { depth = suc n.depth }) T s.closed; nested = λ a q z e. below a q z e (strip q p) refl (T q) refl }
    where
      below : (a q z : Place) → strip a q ≡ Some z → (o : Option Place) → strip q p ≡ o → (n : Option (Node O)) → T q ≡ n → depth_of (where_some o deeper (T q)) ≤ depth_of (where_some (strip a p) deeper (T a))
      below a q z e None f n g = (let b : depth_of (T q) ≤ depth_of (T a) = s.nested a q z e in let c : depth_of (T a) ≤ depth_of (where_some (strip a p) deeper (T a)) = deep_least (strip a p) (T a) in omega arith)
      below a q z e (Some y) f None g =
          let h : depth_of (where_some (Some y) deeper (T q)) ≡ 0 = ap (λ o. depth_of (deeper o)) g in omega arith
      below a q z e (Some y) f (Some n) g =
          let b : depth_of (T q) ≤ depth_of (T a) = s.nested a q z e in
          let on : strip a p ≡ Some (z ++ y) = strip_trans a q p z y e f in
          let c : depth_of (where_some (strip a p) deeper (T a)) ≡ suc (depth_of (T a)) = deep_depth (strip a p) (T a) (λ h. not_both (s.closed a q z e h) g) (z ++ y) on in
          let d : depth_of (where_some (Some y) deeper (T q)) ≡ suc (depth_of (T q)) = deep_depth (Some y) (T q) (λ h. not_both h g) y refl in
          omega arith

  shallow_depth : (o : Option (Node O)) → depth_of (shallower o) ≡ pred (depth_of o)
  shallow_depth None = refl
  shallow_depth (Some n) = refl

  -- the depths after one level more, an evaluation, and that level less
  level_depth : (s : Option Path) (b : Bool) (o u : Option (Node O)) → depth_of u ≡ depth_left b (depth_of (where_some s deeper o)) → depth_of (where_some s shallower u) ≡ depth_left b (depth_of o)
  level_depth None b o u e = e
  level_depth (Some z) true None u e = shallow_depth u ∙ ap pred e
  level_depth (Some z) true (Some n) u e = shallow_depth u ∙ ap pred e
  level_depth (Some z) false o u e = shallow_depth u ∙ ap pred e

  -- RUNS
  place_top : (p : Path) (m : Move O) (ms : List (Move O)) → (KeepsTop (m ∷ ms) → KeepsTop ms) → KeepsTop (at_top p m ms) → KeepsTop ms
  place_top [] m ms f b = f b
  place_top (x ∷ p) m ms f b = b

  pub asked_top : (p : Place) (x : What O) (ms : List (Move O)) → KeepsTop (asked p x ms) → KeepsTop ms
  asked_top p (In h i) ms f = by (rise_to h p) f
    where
      by : (o : Option Path) → KeepsTop (where_none o (Enter p i) ms) → KeepsTop ms
      by None f = f
      by (Some z) f = f
  asked_top p (Back h a) ms f = by (rise_to h p) f
    where
      by : (o : Option Path) → KeepsTop (where_none o (Come a) ms) → KeepsTop ms
      by None f = f
      by (Some z) f = f
  asked_top p (Made o s) ms f = place_top p (Born o s) ms (λ g. absurd g) f
  asked_top p Dropped ms f = place_top p Fall ms (λ g. absurd g) f
  asked_top p x ms f = f

  top_step : (w : World O) (p : Place) (x : What O) (u : World O) → Step w p x u → KeepsTop w.moves → KeepsTop u.moves
  top_step w p x u s f = asked_top p x u.moves (subst KeepsTop s.moves f)

  pub record Result (w v : World O) (e : Ending) : Type 0 where
    pub made : List (Event O)
    pub first : w.tape ≡ made ++ v.tape
    pub closed : Closed v.tree
    pub top : KeepsTop v.moves
    pub depths : (r : Reply) → e ≡ Some r → AsDeep (λ q. is_spared q made) w.tree v.tree
    pub stands : (c : Place) → 1 ≤ depth_of (w.tree c) → is_spared c made ≡ true → IsStanding c made

  at_once : (w : World O) (e : Ending) → Sound w.tree → KeepsTop w.moves → Result w w e
  at_once w e s m = record { made = []; first = refl; closed = s.closed; top = m; depths = λ r f q. refl; stands = λ c l f. tt }

  sound_step : (w : World O) (p : Place) (x : What O) (u : World O) → Step w p x u → Calm w.tree p x → Sound w.tree → Sound u.tree
  sound_step w p x u s c f = subst Sound (sym s.tree) (sound_after (λ q. spares q p x) w.tree (effect p x w.tree) (spares_above p x) f c.closed c.depths)

  sound_run : (w u : World O) (r : Reply) → Sound w.tree → Result w u (Some r) → Sound u.tree
  sound_run w u r f a = sound_after (λ q. is_spared q a.made) w.tree u.tree (spared_above a.made) f a.closed (a.depths r refl)

  -- one happening, and then the rest
  step_then : (w : World O) (p : Place) (x : What O) (u v : World O) (e : Ending) → Step w p x u → Calm w.tree p x → Result u v e → Result w v e
  step_then w p x u v e s c a = record {
    made = record { place = p; what = x } ∷ a.made;
    first = s.tape ∙ ap (λ l. record { place = p; what = x } ∷ l) a.first;
    closed = a.closed;
    top = a.top;
    depths = λ r f q. a.depths r f q ∙ ap (depth_left (is_spared q a.made)) (deep q) ∙ left_left (spares q p x) (is_spared q a.made) (depth_of (w.tree q));
    stands = λ y l f. (let h : (spares y p x ≡ true) × (is_spared y a.made ≡ true) = and_parts (spares y p x) (is_spared y a.made) f in
        let d : depth_of (u.tree y) ≡ depth_of (w.tree y) = deep y ∙ ap (λ b. depth_left b (depth_of (w.tree y))) h.0 in
        (c.stands y l h.0, a.stands y (omega arith) h.1));
  }
    where
      deep : AsDeep (λ q. spares q p x) w.tree u.tree
      deep = subst (AsDeep (λ q. spares q p x) w.tree) (sym s.tree) c.depths

  -- a run, and then the rest
  run_then : (w u v : World O) (r : Reply) (e : Ending) → Result w u (Some r) → Result u v e → Result w v e
  run_then w u v r e a b = record {
    made = a.made ++ b.made;
    first = a.first ∙ ap (λ l. a.made ++ l) b.first ∙ sym (append_assoc a.made b.made v.tape);
    closed = b.closed;
    top = b.top;
    depths = λ z f q. b.depths z f q ∙ ap (depth_left (is_spared q b.made)) (a.depths r refl q) ∙ left_left (is_spared q a.made) (is_spared q b.made) (depth_of (w.tree q))
        ∙ ap (λ y. depth_left y (depth_of (w.tree q))) (sym (spared_append q a.made b.made));
    stands = λ c l f. (let h : (is_spared c a.made ≡ true) × (is_spared c b.made ≡ true) = and_parts (is_spared c a.made) (is_spared c b.made) (sym (spared_append c a.made b.made) ∙ f) in
        let d : depth_of (u.tree c) ≡ depth_of (w.tree c) = a.depths r refl c ∙ ap (λ y. depth_left y (depth_of (w.tree c))) h.0 in
        standing_append c a.made b.made (a.stands c l h.0) (b.stands c (omega arith) h.1));
  }

  -- one level, to its end
  level : (w : World O) (p : Place) (inner left closed : World O) (r : Reply) (e : Ending) → Step w p Nested inner → Result inner left (Some r) → Step left p Unnested closed → Result w closed e
  level w p inner left closed r e s a t = record {
    made = record { place = p; what = Nested } ∷ (a.made ++ record { place = p; what = Unnested } ∷ []);
    first = s.tape ∙ ap (λ l. record { place = p; what = Nested } ∷ l) (a.first ∙ ap (λ l. a.made ++ l) t.tape ∙ sym (append_assoc a.made (record { place = p; what = Unnested } ∷ []) closed.tape));
    closed = subst Closed (sym t.tree) (line_closed p (λ n. record n { depth = pred n.depth }) left.tree a.closed);
    top = top_step left p Unnested closed t a.top;
    depths = λ z f q. ap (λ T. depth_of (T q)) t.tree ∙ level_depth (strip q p) (is_spared q a.made) (w.tree q) (left.tree q) (a.depths r refl q ∙ ap (λ T. depth_left (is_spared q a.made) (depth_of (T q))) s.tree)
        ∙ ap (λ y. depth_left y (depth_of (w.tree q))) (sym (same_spared q));
    stands = λ c l f. (tt, standing_append c a.made (record { place = p; what = Unnested } ∷ []) (a.stands c (higher c l) (sym (same_spared c) ∙ f)) (tt, tt));
  }
    where
      same_spared : (q : Place) → is_spared q (a.made ++ record { place = p; what = Unnested } ∷ []) ≡ is_spared q a.made
      same_spared q = spared_append q a.made (record { place = p; what = Unnested } ∷ []) ∙ and_last (is_spared q a.made)

      higher : (c : Place) → 1 ≤ depth_of (w.tree c) → 1 ≤ depth_of (inner.tree c)
      higher c l = let d : depth_of (inner.tree c) ≡ depth_of (where_some (strip c p) deeper (w.tree c)) = ap (λ T. depth_of (T c)) s.tree in let b : depth_of (w.tree c) ≤ depth_of (where_some (strip c p) deeper (w.tree c)) = deep_least (strip c p) (w.tree c) in omega arith

  -- one that halts
  halted_level : (w : World O) (p : Place) (inner left : World O) → Step w p Nested inner → Result inner left None → Result w left None
  halted_level w p inner left s a = record {
    made = record { place = p; what = Nested } ∷ a.made;
    first = s.tape ∙ ap (λ l. record { place = p; what = Nested } ∷ l) a.first;
    closed = a.closed;
    top = a.top;
    depths = λ r f. absurd (not_both refl f);
    stands = λ c l f. (tt, a.stands c (let d : depth_of (inner.tree c) ≡ depth_of (where_some (strip c p) deeper (w.tree c)) = ap (λ T. depth_of (T c)) s.tree in let b : depth_of (w.tree c) ≤ depth_of (where_some (strip c p) deeper (w.tree c)) = deep_least (strip c p) (w.tree c) in omega arith) f);
  }

  nest_step : (w : World O) (p : Place) (s : Option (List ℕ)) (x : What O) (u : World O) → s ≡ None → x ≡ Nested → Step w (spot p s) x u → Step w p Nested u
  nest_step w p s x u e f a = subst (λ y. Step w p y u) f (subst (λ l. Step w (spot p l) x u) e a)

  nested_sound : (w : World O) (p : Place) (u : World O) → Step w p Nested u → Sound w.tree → Sound u.tree
  nested_sound w p u s f = subst Sound (sym s.tree) (deep_sound w.tree p f)

  exits_steady : (w : World O) (p : Place) (s : Wait) (n : ℤ) (ms : List (Move O)) (v : World O) (e : Ending) → Exits w p s n ms v e → Sound w.tree → KeepsTop w.moves → Result w v e
  exits_steady w p s n ms v e a f m = by ms a
    where
      halt : Halts w v e → Result w v e
      halt x = subst (λ u. Result w u e) (sym x.same) (at_once w e f m)

      back : (l : Bool) → Exiting w p s n l v e → Result w v e
      back false x = halt x
      back true x =
          let c : Calm w.tree p (Back (height_of s) (Replied (Exit n))) = same_calm w.tree p (Back (height_of s) (Replied (Exit n))) f refl (λ c. tt) (λ q. refl) in
          step_then w p (Back (height_of s) (Replied (Exit n))) v v e x.0 c (at_once v e (sound_step w p (Back (height_of s) (Replied (Exit n))) v x.0 c f) (top_step w p (Back (height_of s) (Replied (Exit n))) v x.0 m))

      by : (ms : List (Move O)) → Exits w p s n ms v e → Result w v e
      by [] x = halt x
      by (Come y ∷ ms) x = back (ends_call s n y) x
      by (Born o l ∷ ms) x = halt x
      by (Fall ∷ ms) x = halt x
      by (Enter u i ∷ ms) x = halt x

  -- a happening that leaves the tree, and a run
  abbrev Passes : World O → Place → What O → World O → Type 0
  Passes w p x u = Step w p x u × (effect p x w.tree ≡ w.tree) × ((c : Place) → Stands c p x) × ((c : Place) → spares c p x ≡ true)

  pass : (w : World O) (p : Place) (x : What O) (u v : World O) (e : Ending) → Passes w p x u → Sound w.tree → KeepsTop w.moves → (Sound u.tree → KeepsTop u.moves → Result u v e) → Result w v e
  pass w p x u v e (s, f, g, k) h m a =
      let c : Calm w.tree p x = same_calm w.tree p x h f g k in
      step_then w p x u v e s c (a (sound_step w p x u s c h) (top_step w p x u s m))

  does : (w : World O) (p : Place) (x : What O) (u v : World O) (e : Ending) → Step w p x u → Calm w.tree p x → Sound w.tree → KeepsTop w.moves → (Sound u.tree → KeepsTop u.moves → Result u v e) → Result w v e
  does w p x u v e s c h m a = step_then w p x u v e s c (a (sound_step w p x u s c h) (top_step w p x u s m))

  runs : (w u v : World O) (r : Reply) (e : Ending) → Sound w.tree → Result w u (Some r) → (Sound u.tree → KeepsTop u.moves → Result u v e) → Result w v e
  runs w u v r e h a b = run_then w u v r e a (b (sound_run w u r h a) a.top)

  -- an evaluation with a wrap, to its end
  wrap_runs : (b : Wrap O) (w : World O) (p : Place) (gs : Grants) (x : Deed O) (inner left closed : World O) (r : Reply) (e : Ending) → opens b w.tree p gs ≡ Some x → x.2 ≡ On → Step w (spot p x.0) x.1 inner → Step left p (closes b (inner.tree p) (left.tree p)) closed → Sound w.tree → KeepsTop w.moves →
      (Sound inner.tree → KeepsTop inner.moves → Result inner left (Some r)) → Result w closed e
  wrap_runs Deeper w p gs x inner left closed r e g on s t h m a =
      let o : Deep w.tree p x = opening Deeper w.tree p gs x h g in
      let y : (x.0 ≡ None) × (x.1 ≡ Nested) = o.0 on in
      let s2 : Step w p Nested inner = nest_step w p x.0 x.1 inner y.0 y.1 s in
      level w p inner left closed r e s2 (a (nested_sound w p inner s2 h) (top_step w p Nested inner s2 m)) t
  wrap_runs (Framed o back) w p gs x inner left closed r e g on s t h m a =
      does w (spot p x.0) x.1 inner closed e s (opening (Framed o back) w.tree p gs x h g) h m (λ h2 m2. runs inner left closed r e h2 (a h2 m2) (λ h3 m3. does left p (closes (Framed o back) (inner.tree p) (left.tree p)) closed closed e t (framed_calm left.tree p o back (inner.tree p) (left.tree p) h3) h3 m3 (λ h4 m4. at_once closed e h4 m4)))

  wrap_halts : (b : Wrap O) (w : World O) (p : Place) (gs : Grants) (x : Deed O) (inner left : World O) → opens b w.tree p gs ≡ Some x → x.2 ≡ On → Step w (spot p x.0) x.1 inner → Sound w.tree → KeepsTop w.moves → (Sound inner.tree → KeepsTop inner.moves → Result inner left None) → Result w left None
  wrap_halts Deeper w p gs x inner left g on s h m a =
      let o : Deep w.tree p x = opening Deeper w.tree p gs x h g in
      let y : (x.0 ≡ None) × (x.1 ≡ Nested) = o.0 on in
      let s2 : Step w p Nested inner = nest_step w p x.0 x.1 inner y.0 y.1 s in
      halted_level w p inner left s2 (a (nested_sound w p inner s2 h) (top_step w p Nested inner s2 m))
  wrap_halts (Framed o back) w p gs x inner left g on s h m a = does w (spot p x.0) x.1 inner left None s (opening (Framed o back) w.tree p gs x h g) h m a

module _ {O I : Type 0} (prog : Table O I) where
  steady_run : {w : World O} {p : Place} {x : Prog O I} {v : World O} {e : Ending} → Derives prog w p x v e → Sound w.tree → KeepsTop w.moves → Result w v e
  steady_run (completed w p y) h m = at_once w _ h m
  steady_run (exited w p n) h m = at_once w _ h m
  steady_run (acted w p d k x u v e g on s a) h m = does w _ x.1 u v e s (decide_calm d w.tree p w.grants x h g) h m (λ h2 m2. steady_run a h2 m2)
  steady_run (refused w p d k x r u g off s) h m = does w _ x.1 u u _ s (decide_calm d w.tree p w.grants x h g) h m (λ h2 m2. at_once u _ h2 m2)
  steady_run (unheard w p d k g t) h m = at_once w _ h m
  steady_run (went w p i k u c v e a b) h m = runs w u v _ e h (steady_run a h m) (λ h2 m2. steady_run b h2 m2)
  steady_run (passed w p i k u r q a) h m = steady_run a h m
  steady_run (halted w p i k u a) h m = steady_run a h m
  steady_run (wrapped w p b i k x inner left closed v c e g on s a t d) h m =
      runs w closed v (Completed c) e h (wrap_runs b w p w.grants x inner left closed (Completed c) (Some (Completed c)) g on s t h m (λ h2 m2. steady_run a h2 m2)) (λ h2 m2. steady_run d h2 m2)
  steady_run (wrapped_passed w p b i k x inner left closed r q g on s a t) h m = wrap_runs b w p w.grants x inner left closed r _ g on s t h m (λ h2 m2. steady_run a h2 m2)
  steady_run (wrapped_halted w p b i k x inner left g on s a) h m = wrap_halts b w p w.grants x inner left g on s h m (λ h2 m2. steady_run a h2 m2)
  steady_run (too_deep w p b i k x u v e g deep s a) h m = does w _ x.1 u v e s (unopened b w.tree p x (deep_not x.2 deep) (opening b w.tree p w.grants x h g)) h m (λ h2 m2. steady_run a h2 m2)
  steady_run (shut w p b i k x r u g off s) h m = does w _ x.1 u u _ s (unopened b w.tree p x (off_not x.2 r off) (opening b w.tree p w.grants x h g)) h m (λ h2 m2. at_once u _ h2 m2)
  steady_run (unheard_inside w p b i k g t) h m = at_once w _ h m
  steady_run (called w p h down i lost k a t out inner left told back v r c e f s1 g s2 x s3 so s4 z) j m =
      pass w p _ out v e (s1, refl, (λ c. tt), (λ q. refl)) j m (λ j2 m2. pass out t _ inner v e (s2, refl, (λ c. tt), (λ q. refl)) j2 m2 (λ j3 m3. runs inner left v r e j3 (steady_run x j3 m3)
      (λ j4 m4. pass left t _ told v e (s3, refl, (λ c. tt), (λ q. refl)) j4 m4 (λ j5 m5. pass told p _ back v e (s4, refl, (λ c. tt), (λ q. refl)) j5 m5 (λ j6 m6. steady_run z j6 m6)))))
  steady_run (called_passed w p h down i lost k a t out inner left told back r f s1 g s2 x s3 q s4) j m =
      pass w p _ out back _ (s1, refl, (λ c. tt), (λ q. refl)) j m (λ j2 m2. pass out t _ inner back _ (s2, refl, (λ c. tt), (λ q. refl)) j2 m2 (λ j3 m3. runs inner left back r _ j3 (steady_run x j3 m3)
      (λ j4 m4. pass left t _ told back _ (s3, refl, (λ c. tt), (λ q. refl)) j4 m4 (λ j5 m5. pass told p _ back back _ (s4, refl, (λ c. tt), (λ q. refl)) j5 m5 (λ j6 m6. at_once back _ j6 m6)))))
  steady_run (called_halted w p h down i lost k a t out inner left f s1 g s2 x) j m =
      pass w p _ out left None (s1, refl, (λ c. tt), (λ q. refl)) j m (λ j2 m2. pass out t _ inner left None (s2, refl, (λ c. tt), (λ q. refl)) j2 m2 (λ j3 m3. steady_run x j3 m3))
  steady_run (unreached w p h down i lost k a out back v e f s1 g s2 x) j m =
      pass w p _ out v e (s1, refl, (λ c. tt), (λ q. refl)) j m (λ j2 m2. pass out p _ back v e (s2, refl, (λ c. tt), (λ q. refl)) j2 m2 (λ j3 m3. steady_run x j3 m3))
  steady_run (called_out w p h down i lost k u v e f s a) j m = pass w p _ u v e (s, refl, (λ c. tt), (λ q. refl)) j m (λ j2 m2. steady_run a j2 m2)
  steady_run (unanswered w p s k f g t) h m = at_once w _ h m
  steady_run (unfit w p s k y ms f g h t) j m = at_once w _ j m
  steady_run (answered w p s k c u v e f g t a) h m = pass w p _ u v e (t, refl, (λ c. tt), (λ q. refl)) h m (λ h2 m2. steady_run a h2 m2)
  steady_run (heard w p s k y u v e f g t a) h m = pass w p _ u v e (t, refl, (λ c. tt), (λ q. refl)) h m (λ h2 m2. steady_run a h2 m2)
  steady_run (missed w p s k u v e f g t a) h m = pass w p _ u v e (t, refl, (λ c. tt), (λ q. refl)) h m (λ h2 m2. steady_run a h2 m2)
  steady_run (answered_passed w p s k r u q f g t) h m = pass w p _ u u _ (t, refl, (λ c. tt), (λ q. refl)) h m (λ h2 m2. at_once u _ h2 m2)
  steady_run (entered w p s k t i inner left told v r e f here s1 a s2 n b) h m =
      pass w t _ inner v e (s1, refl, (λ c. tt), (λ q. refl)) h m (λ h2 m2. runs inner left v r e h2 (steady_run a h2 m2) (λ h3 m3. pass left t _ told v e (s2, refl, (λ c. tt), (λ q. refl)) h3 m3 (λ h4 m4. steady_run b h4 m4)))
  steady_run (entered_halted w p s k t i inner left f here s1 a) h m = pass w t _ inner left None (s1, refl, (λ c. tt), (λ q. refl)) h m (λ h2 m2. steady_run a h2 m2)
  steady_run (entered_exiting w p s k t i inner left told v n e f here s1 a s2 b) h m =
      pass w t _ inner v e (s1, refl, (λ c. tt), (λ q. refl)) h m (λ h2 m2. runs inner left v (Exit n) e h2 (steady_run a h2 m2) (λ h3 m3. pass left t _ told v e (s2, refl, (λ c. tt), (λ q. refl)) h3 m3 (λ h4 m4. exits_steady told p s n told.moves v e b h4 m4)))
  steady_run (born w p s k o b u v e f t a) h m = absurd (let g : KeepsTop (Born o b ∷ u.moves) = subst KeepsTop t.moves m in g)
  steady_run (unfound w p s k t i u v e f here b a) h m = pass w [] _ u v e (b, refl, (λ c. tt), (λ q. refl)) h m (λ h2 m2. steady_run a h2 m2)
  steady_run (fallen w p s k u v e f t a) h m = absurd (let g : KeepsTop (Fall ∷ u.moves) = subst KeepsTop t.moves m in g)

module _ {O I : Type 0} where
  pub steady : Steady O I
  steady prog w v p x e a f m =
      let h : Sound w.tree = sound_of w.tree f in
      let r : Result w v e = steady_run prog (runs_derived prog w p x v e a) h m in
      record { made = r.made; happened = r.first; depths = r.depths; upright = λ y g. upright_of v.tree (sound_after (λ q. is_spared q r.made) w.tree v.tree (spared_above r.made) h r.closed (r.depths y g)); standing = r.stands }
