-- A safe subtree asks the host for nothing, and sets no limit.
use Rattle.std.proofs.Common.{pred, sym, ◌≡◌, ◌⊎◌, inl, inr, ℕ, suc, Bool, true, false, not, List, [], ◌∷◌, ◌++◌, Option, Some, None, refl, ◌∙◌, ap, subst, append-nil}
use Rattle.tcl_core.specs.Paths.{Place, strip, rise_to}
use Rattle.tcl_core.specs.Trees.{Tree, Node, What, Event, Move, at, at_end, where_some, on_some, effect, with_own, with_limit, with_depth_limit, counted, deeper, shallower, fresh, asked, where_none, at_top, seen_what}
use Rattle.tcl_core.specs.Trees.What.{Changed, Charged, Nested, Unnested, Limited, DepthLimited, Made, Dropped, Out, In, Back}
use Rattle.tcl_core.specs.Trees.Move.{Born, Fall, Enter, Come}
use Rattle.tcl_core.specs.Programs.Prog.{wait}
use Rattle.tcl_core.specs.Views.{moves_of, view, inside_of, kept, from_above}
use Rattle.tcl_core.specs.Lives.{Lives, idle, never}
use Rattle.tcl_core.specs.Tables.{Discipline, IsGoodNode, IsGood, AreTame, Allowed, AreAllowed, exposes, hostless, sets_limit, unlimiting}
use Rattle.tcl_core.specs.Laws.{Stands, IsStanding, KeepsTop, IsSafeBelow, IsSafeAt, ArePlain, AreFree, IsNoRequest, AsksNothing, NoRequests, Unasked, AsLimited, LimitsKept, after}
use Rattle.tcl_core.proofs.PathLaws.{not_both, strip_own, strip-append, strip-sound}
use Rattle.tcl_core.proofs.TreeLaws.{unseen}
use Rattle.tcl_core.proofs.Counts.{happenings, standing}
use Rattle.tcl_core.proofs.Conclusions.{lives_within}
use Rattle.tcl_core.proofs.Reacting.{Lasting, IsLasting, lasting, life_of}
use Rattle.tcl_core.proofs.Disciplines.{bad, disciplined}

module _ {O : Type 0} where
  -- the moves that a tree reads which is neither made nor dropped
  lasting_top : (τ : List (Event O)) → IsLasting τ → KeepsTop (moves_of τ)
  lasting_top [] f = tt
  lasting_top (ev ∷ τ) f = step ev.place ev.what f.0 (moves_of τ) (lasting_top τ f.1)
    where
      none : (o : Option Place) (m : Move O) (ms : List (Move O)) → (KeepsTop ms → KeepsTop (m ∷ ms)) → KeepsTop ms → KeepsTop (where_none o m ms)
      none None m ms g h = g h
      none (Some z) m ms g h = h

      top : (p : Place) (m : Move O) (ms : List (Move O)) → (p ≡ [] → Prim.⊥) → KeepsTop ms → KeepsTop (at_top p m ms)
      top [] m ms g h = absurd (g refl)
      top (y ∷ p) m ms g h = h

      step : (p : Place) (x : What O) → Lasting p x → (ms : List (Move O)) → KeepsTop ms → KeepsTop (asked p x ms)
      step p (In h i) f ms g = none (rise_to h p) (Enter p i) ms (λ k. k) g
      step p (Back h a) f ms g = none (rise_to h p) (Come a) ms (λ k. k) g
      step p (Made o s) f ms g = top p (Born o s) ms f g
      step p Dropped f ms g = top p Fall ms f g
      step p x f ms g = g

  -- a safe interpreter's subtree
  good_node : {I : Type 0} (R : Discipline O I) (o : Option (Node O)) → ((n : Node O) → o ≡ Some n → (n.safe ≡ true) × (R.plain n.own ≡ true)) → IsGoodNode R o
  good_node R None f = tt
  good_node R (Some n) f = f n refl

  good_at : {I : Type 0} (R : Discipline O I) (T : Tree O) (c : Place) → IsSafeBelow T → IsSafeAt T c → ArePlain R.plain (at T c) → IsGood R (at T c)
  good_at R T c s a f p = good_node R (T (c ++ p)) (λ n e. (s c (c ++ p) p a.0 n (strip_own c p) a.1 a.2 e, f p n e))

module _ {O I : Type 0} where
  -- NO REQUESTS
  free_tame : (plain : O → Bool) (fine : I → Bool) (ms : List (Move O)) → KeepsTop ms → AreFree exposes ms → AreTame (hostless plain fine) ms
  free_tame plain fine [] k f = tt
  free_tame plain fine (Enter t i ∷ ms) k f = (inl (ap not f.0), free_tame plain fine ms k f.1)
  free_tame plain fine (Come a ∷ ms) k f = (tt, free_tame plain fine ms k f)
  free_tame plain fine (Born o s ∷ ms) k f = absurd k
  free_tame plain fine (Fall ∷ ms) k f = absurd k

  no_request : (plain : O → Bool) (fine : I → Bool) (p : Place) (x : What O) → Allowed (hostless plain fine) p x → IsNoRequest x
  no_request plain fine p (Out None down i) f = bad f
  no_request plain fine p (Out (Some h) down i) f = tt
  no_request plain fine p x f = tt

  asks_nothing : (plain : O → Bool) (fine : I → Bool) (τ : List (Event O)) → AreAllowed (hostless plain fine) τ → AsksNothing τ
  asks_nothing plain fine [] f = tt
  asks_nothing plain fine (ev ∷ τ) f = (no_request plain fine ev.place ev.what f.0, asks_nothing plain fine τ f.1)

  pub no_requests : NoRequests O I
  no_requests plain fine prog all c w v t i r a e f st s sc p m =
      let k : AreAllowed (hostless plain fine) (view c w.tape) × IsGood (hostless plain fine) (at v.tree c) =
      disciplined (hostless plain fine) prog all c w v (life_of prog w v t i r a e f) f (good_at (hostless plain fine) w.tree c s sc p) (free_tame plain fine (moves_of (view c w.tape)) (lasting_top (view c w.tape) (lasting c w.tape (standing prog c w [] (wait idle never) v None (life_of prog w v t i r a e f) st f))) m) in
      asks_nothing plain fine (view c w.tape) k.0

-- LIMITS
-- everywhere but at q
abbrev is_top : Option Place → Bool
is_top None = false
is_top (Some []) = true
is_top (Some (x ∷ p)) = false

abbrev elsewhere : Place → Place → Bool
elsewhere q p = not (is_top (strip p q))

pub not_true : (b : Bool) → not b ≡ true → b ≡ false
not_true true e = bad e
not_true false e = refl

elsewhere_of : (q t : Place) → (t ≡ q → Prim.⊥) → elsewhere q t ≡ true
elsewhere_of q t f = by (strip t q) refl
  where
    by : (o : Option Place) → strip t q ≡ o → not (is_top o) ≡ true
    by None e = refl
    by (Some []) e = absurd (f (sym (strip-sound t q [] e ∙ append-nil t)))
    by (Some (x ∷ p)) e = refl

module _ {O I : Type 0} where
  unasked_tame : (fine : I → Bool) (q : Place) (ms : List (Move O)) → KeepsTop ms → Unasked q ms → AreTame (unlimiting {O = O} fine (elsewhere q)) ms
  unasked_tame fine q [] k f = tt
  unasked_tame fine q (Enter t i ∷ ms) k f = (by (sets_limit i) refl, unasked_tame fine q ms k f.1)
    where
      by : (b : Bool) → sets_limit i ≡ b → (not (sets_limit i) ≡ true) ⊎ ((sets_limit i ≡ true) × (elsewhere q t ≡ true))
      by false e = inl (ap not e)
      by true e = inr (e, elsewhere_of q t (f.0 e))
  unasked_tame fine q (Come a ∷ ms) k f = (tt, unasked_tame fine q ms k f)
  unasked_tame fine q (Born o s ∷ ms) k f = absurd k
  unasked_tame fine q (Fall ∷ ms) k f = absurd k

module _ {O : Type 0} where
  -- no limit is set at q
  abbrev Unlimited : Place → Place → What O → Type 0
  Unlimited q p (Limited l) = is_top (strip p q) ≡ false
  Unlimited q p (DepthLimited l) = is_top (strip p q) ≡ false
  Unlimited q p x = Unit {0}

  abbrev AreUnlimited : Place → List (Event O) → Type 0
  AreUnlimited q [] = Unit {0}
  AreUnlimited q (ev ∷ τ) = Unlimited q ev.place ev.what × AreUnlimited q τ

  limit_not : {I : Type 0} (fine : I → Bool) (q p : Place) (x : What O) → Allowed (unlimiting {O = O} fine (elsewhere q)) p x → Unlimited q p x
  limit_not fine q p (Limited l) (inl f) = bad f
  limit_not fine q p (Limited l) (inr f) = not_true (is_top (strip p q)) f
  limit_not fine q p (DepthLimited l) (inl f) = bad f
  limit_not fine q p (DepthLimited l) (inr f) = not_true (is_top (strip p q)) f
  limit_not fine q p x f = tt

  limits_not : {I : Type 0} (fine : I → Bool) (q : Place) (τ : List (Event O)) → AreAllowed (unlimiting {O = O} fine (elsewhere q)) τ → AreUnlimited q τ
  limits_not fine q [] f = tt
  limits_not fine q (ev ∷ τ) f = (limit_not fine q ev.place ev.what f.0, limits_not fine q τ f.1)

  -- what keeps the limits of a node
  abbrev SameLimits : (Node O → Node O) → Type 0
  SameLimits f = (n : Node O) → ((f n).limit ≡ n.limit) × ((f n).depth_limit ≡ n.depth_limit)

  on_limited : (was : Option (Node O)) (f : Node O → Node O) → SameLimits f → (o : Option (Node O)) → AsLimited was o → AsLimited was (on_some f o)
  on_limited was f g None a = tt
  on_limited was f g (Some m) (inl a) = inl ((g m).0 ∙ a.0, (g m).1 ∙ a.1)
  on_limited was f g (Some m) (inr (n, e, a, b)) = inr (n, e, (g m).0 ∙ a, (g m).1 ∙ b)

  end_limited : (was : Option (Node O)) (s : Option Place) (f : Option (Node O) → Option (Node O)) (o : Option (Node O)) → AsLimited was o → (s ≡ Some [] → AsLimited was (f o)) → AsLimited was (at_end s f o)
  end_limited was None f o a b = a
  end_limited was (Some []) f o a b = b refl
  end_limited was (Some (x ∷ p)) f o a b = a

  where_limited : (was : Option (Node O)) (s : Option Place) (f : Option (Node O) → Option (Node O)) (o : Option (Node O)) → AsLimited was o → AsLimited was (f o) → AsLimited was (where_some s f o)
  where_limited was None f o a b = a
  where_limited was (Some z) f o a b = b

  elsewhere_limited : (was : Option (Node O)) (s : Option Place) (f : Option (Node O) → Option (Node O)) (o : Option (Node O)) → is_top s ≡ false → AsLimited was o → AsLimited was (at_end s f o)
  elsewhere_limited was None f o e a = a
  elsewhere_limited was (Some []) f o e a = bad (sym e)
  elsewhere_limited was (Some (x ∷ p)) f o e a = a

  effect_limited : (was : Option (Node O)) (q p : Place) (x : What O) (T : Tree O) → Unlimited q p x → AsLimited was (T q) → AsLimited was (effect p x T q)
  effect_limited was q p (Changed o) T f a = end_limited was (strip p q) (with_own o) (T q) a (λ e. on_limited was (λ n. record n { own = o }) (λ n. (refl, refl)) (T q) a)
  effect_limited was q p Charged T f a = where_limited was (strip q p) counted (T q) a (on_limited was (λ n. record n { count = suc n.count }) (λ n. (refl, refl)) (T q) a)
  effect_limited was q p Nested T f a = where_limited was (strip q p) deeper (T q) a (on_limited was (λ n. record n { depth = suc n.depth }) (λ n. (refl, refl)) (T q) a)
  effect_limited was q p Unnested T f a = where_limited was (strip q p) shallower (T q) a (on_limited was (λ n. record n { depth = pred n.depth }) (λ n. (refl, refl)) (T q) a)
  effect_limited was q p (Limited l) T f a = elsewhere_limited was (strip p q) (with_limit l) (T q) f a
  effect_limited was q p (DepthLimited l) T f a = elsewhere_limited was (strip p q) (with_depth_limit l) (T q) f a
  effect_limited was q p (Made o s) T f a = end_limited was (strip p q) (λ x. Some (fresh o s)) (T q) a (λ e. inl (refl, refl))
  effect_limited was q p Dropped T f a = where_limited was (strip p q) (λ x. None) (T q) a tt
  effect_limited was q p x T f a = a

  after_limited : (was : Option (Node O)) (q : Place) (τ : List (Event O)) (T : Tree O) → AreUnlimited q τ → AsLimited was (T q) → AsLimited was (after τ T q)
  after_limited was q [] T f a = a
  after_limited was q (ev ∷ τ) T f a = after_limited was q τ (effect ev.place ev.what T) f.1 (effect_limited was q ev.place ev.what T f.0 a)

  limited_first : (o : Option (Node O)) → AsLimited o o
  limited_first None = tt
  limited_first (Some n) = inr (n, refl, refl, refl)

  -- one that is neither made nor dropped
  abbrev Same : Node O → Option (Node O) → Type 0
  Same n o = (m : Node O) × (o ≡ Some m) × (m.limit ≡ n.limit) × (m.depth_limit ≡ n.depth_limit)

  on_same : (n : Node O) (f : Node O → Node O) → SameLimits f → (o : Option (Node O)) → Same n o → Same n (on_some f o)
  on_same n f g o (m, e, a, b) = (f m, ap (on_some f) e, (g m).0 ∙ a, (g m).1 ∙ b)

  end_same : (n : Node O) (s : Option Place) (f : Option (Node O) → Option (Node O)) (o : Option (Node O)) → Same n o → (s ≡ Some [] → Same n (f o)) → Same n (at_end s f o)
  end_same n None f o a b = a
  end_same n (Some []) f o a b = b refl
  end_same n (Some (x ∷ p)) f o a b = a

  where_same : (n : Node O) (s : Option Place) (f : Option (Node O) → Option (Node O)) (o : Option (Node O)) → Same n o → Same n (f o) → Same n (where_some s f o)
  where_same n None f o a b = a
  where_same n (Some z) f o a b = b

  apart_same : (n : Node O) (s : Option Place) (f : Option (Node O) → Option (Node O)) (o : Option (Node O)) → is_top s ≡ false → Same n o → Same n (at_end s f o)
  apart_same n None f o e a = a
  apart_same n (Some []) f o e a = bad (sym e)
  apart_same n (Some (x ∷ p)) f o e a = a

  effect_same : (n : Node O) (q p : Place) (x : What O) (T : Tree O) → Unlimited q p x → Stands q p x → Same n (T q) → Same n (effect p x T q)
  effect_same n q p (Changed o) T f g a = end_same n (strip p q) (with_own o) (T q) a (λ e. on_same n (λ n. record n { own = o }) (λ n. (refl, refl)) (T q) a)
  effect_same n q p Charged T f g a = where_same n (strip q p) counted (T q) a (on_same n (λ n. record n { count = suc n.count }) (λ n. (refl, refl)) (T q) a)
  effect_same n q p Nested T f g a = where_same n (strip q p) deeper (T q) a (on_same n (λ n. record n { depth = suc n.depth }) (λ n. (refl, refl)) (T q) a)
  effect_same n q p Unnested T f g a = where_same n (strip q p) shallower (T q) a (on_same n (λ n. record n { depth = pred n.depth }) (λ n. (refl, refl)) (T q) a)
  effect_same n q p (Limited l) T f g a = apart_same n (strip p q) (with_limit l) (T q) f a
  effect_same n q p (DepthLimited l) T f g a = apart_same n (strip p q) (with_depth_limit l) (T q) f a
  effect_same n q p (Made o s) T f g a = end_same n (strip p q) (λ x. Some (fresh o s)) (T q) a (λ e. absurd (g e))
  effect_same n q p Dropped T f g a = subst (λ s. Same n (where_some s (λ x. None) (T q))) (sym g) a
  effect_same n q p x T f g a = a

  after_same : (n : Node O) (q : Place) (τ : List (Event O)) (T : Tree O) → AreUnlimited q τ → IsStanding q τ → Same n (T q) → Same n (after τ T q)
  after_same n q [] T f g a = a
  after_same n q (ev ∷ τ) T f g a = after_same n q τ (effect ev.place ev.what T) f.1 g.1 (effect_same n q ev.place ev.what T f.0 g.0 a)

  -- what stands below c, as c sees it
  stands_seen : (c q z : Place) (x : What O) → Stands (c ++ q) (c ++ z) x → Stands q z (seen_what z x)
  stands_seen c q z (Made o s) f = λ e. f (strip-append c z q ∙ e)
  stands_seen c q z Dropped f = sym (strip-append c z q) ∙ f
  stands_seen c q z x f = tt

  stands_kept : (c q p : Place) (x : What O) (τ : List (Event O)) → Stands (c ++ q) p x → IsStanding q τ → (s : Option Place) → strip c p ≡ s → IsStanding q (kept s (strip p c) x τ)
  stands_kept c q p x τ f l (Some z) e = (stands_seen c q z x (subst (λ y. Stands (c ++ q) y x) (strip-sound c p z e) f), l)
  stands_kept c q p Dropped τ f l None e = above (strip p c) refl
    where
      above : (b : Option Place) → strip p c ≡ b → IsStanding q (from_above b Dropped τ)
      above None g = l
      above (Some y) g = absurd (not_both f (subst (λ r. strip p (r ++ q) ≡ Some (y ++ q)) (sym (strip-sound p c y g)) (ap (strip p) (Rattle.std.proofs.Common.append_assoc p y q) ∙ strip_own p (y ++ q))))
  stands_kept c q p x τ f l None e = subst (IsStanding q) (sym (unseen (strip p c) x τ tt)) l

  standing_seen : (c q : Place) (τ : List (Event O)) → IsStanding (c ++ q) τ → IsStanding q (view c τ)
  standing_seen c q [] f = tt
  standing_seen c q (ev ∷ τ) f = stands_kept c q ev.place ev.what (view c τ) f.0 (standing_seen c q τ f.1) (strip c ev.place) refl

module _ {O I : Type 0} where
  pub limits_kept : LimitsKept O I
  limits_kept fine prog all c w v t i r a e f st s sc q u =
      let R : Discipline O I = unlimiting fine (elsewhere q) in
      let k : AreAllowed R (view c w.tape) × IsGood R (at v.tree c) =
      disciplined R prog (all (elsewhere q)) c w v (life_of prog w v t i r a e f) f (good_at R w.tree c s sc (λ p n g. refl)) (unasked_tame fine q (moves_of (view c w.tape)) (lasting_top (view c w.tape) (lasting c w.tape (standing prog c w [] (wait idle never) v None (life_of prog w v t i r a e f) st f))) u) in
      let n : AreUnlimited q (view c w.tape) = limits_not fine q (view c w.tape) k.0 in
      let l : Lives prog (inside_of c w) (inside_of c v) None = lives_within prog c w v (life_of prog w v t i r a e f) in
      let h : (made : List (Event O)) × (view c w.tape ≡ made ++ view c v.tape) × (at v.tree c ≡ after made (at w.tree c)) = happenings prog (inside_of c w) [] (wait idle never) (inside_of c v) None l in
      let made : h.0 ≡ view c w.tape = sym (h.1 ∙ ap (λ τ. h.0 ++ view c τ) f ∙ append-nil h.0) in
      let tree : at v.tree c ≡ after (view c w.tape) (at w.tree c) = h.2 ∙ ap (λ τ. after τ (at w.tree c)) made in
      let there : v.tree (c ++ q) ≡ after (view c w.tape) (at w.tree c) q = ap (λ T. T q) tree in (
        subst (AsLimited (w.tree (c ++ q))) (sym there) (after_limited (w.tree (c ++ q)) q (view c w.tape) (at w.tree c) n (limited_first (w.tree (c ++ q)))),
        λ m g stq. subst (Same m) (sym there) (after_same m q (view c w.tape) (at w.tree c) n (standing_seen c q w.tape stq) (m, g, refl, refl)),
      )
