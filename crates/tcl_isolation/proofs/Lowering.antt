-- The count limit of a tree's top is set but as an entry from outside asks for it.
use Rattle.std.proofs.Common.{◌≡◌, ℕ, zero, suc, ℤ, Bool, true, false, List, [], ◌∷◌, ◌++◌, Option, Some, None, refl, sym, ◌∙◌, subst, append-nil}
use Rattle.tcl_core.specs.Endings.{Completion, Meter}
use Rattle.tcl_core.specs.Endings.Cause.{Above, Over}
use Rattle.tcl_core.specs.Endings.Meter.{Count, Depth}
use Rattle.tcl_core.specs.Endings.Reply.{Exit, Cut}
use Rattle.tcl_core.specs.Entries.{Entry, Said}
use Rattle.tcl_core.specs.Entries.Answer.{Replied}
use Rattle.tcl_core.specs.Entries.Entry.{SetCountLimit}
use Rattle.tcl_core.specs.Laws.{IsLowering, KeepsTop, Lowers}
use Rattle.tcl_core.specs.Lives.{Lives, idle, never}
use Rattle.tcl_core.specs.Paths.{Place, strip, rise_to}
use Rattle.tcl_core.specs.Programs.{Act, Deed, Prog, Table, Wait, Wrap, blocked, by_limit, changing, closes, decide, dropping, is_deep, is_spent, making, metered, opens, spot}
use Rattle.tcl_core.specs.Programs.Act.{Look, Change, Charge, Limit, LimitDepth, Make, Drop}
use Rattle.tcl_core.specs.Programs.Next.{On, Off}
use Rattle.tcl_core.specs.Programs.Prog.{done, exit, act, go, inside, call, wait}
use Rattle.tcl_core.specs.Programs.Wrap.{Deeper, Framed}
use Rattle.tcl_core.specs.Rules.{Derives}
use Rattle.tcl_core.specs.Rules.Derives.{completed, exited, acted, refused, unheard, went, passed, halted, wrapped, wrapped_passed, wrapped_halted, too_deep, shut, unheard_inside, called, called_passed, called_halted, unreached, called_out, unanswered, unfit, answered, heard, missed, answered_passed, entered, entered_halted, entered_exiting, born, fallen, unfound}
use Rattle.tcl_core.specs.Runs.{Ending, Exits, Step, World, height_of, reached, where_stands}
use Rattle.tcl_core.specs.Trees.{Event, Grants, Move, Node, Tree, What, asked, at, at_top, where_none}
use Rattle.tcl_core.specs.Trees.Grant.{Allow, Deny}
use Rattle.tcl_core.specs.Trees.Grants.{Listed, Budget}
use Rattle.tcl_core.specs.Trees.Move.{Born, Fall, Enter, Come}
use Rattle.tcl_core.specs.Trees.What.{Seen, Charged, Refused, Nested, Limited, DepthLimited, Made, Dropped, Out, In, Back, Unfound}
use Rattle.tcl_core.specs.Views.{inside_of, kept, moves_of, view}
use Rattle.tcl_core.proofs.Conclusions.{lives_within}
use Rattle.tcl_core.proofs.PathLaws.{Some-inj, not_both, strip-sound, strip_own}
use Rattle.tcl_core.proofs.RuleLaws.{runs_derived}
use Rattle.tcl_core.proofs.Standing.{held_left}
use Rattle.tcl_core.proofs.Callers.{or_lost_all}
use Rattle.tcl_core.proofs.Halts.{exits_so}
use Rattle.tcl_core.proofs.TreeLaws.{any_close}
use Rattle.tcl_isolation.specs.Limits.{AreLowering, AtMost, Lowering}
use Rattle.tcl_run_laws.specs.Limits.{AsksBelow, KeepTops, LimitsBelow, sets_steps}

-- ## Programs

no_top : (a : Place) (name : List ℕ) (down : Place) → a ++ name ∷ down ≡ [] → Prim.⊥
no_top [] name down e = cc
no_top (x ∷ a) name down e = cc

-- the count limit that the entry asks for, if one does
abbrev pub Sets : Option Entry → Option ℕ → Type 0
Sets None y = Prim.⊥
Sets (Some i) y = i ≡ SetCountLimit y

module _ {O : Type 0} where
  abbrev pub Ruled_act : Option Entry → Act O → Type 0
  Ruled_act a (Limit y) = Sets a y
  Ruled_act a d = Unit {0}

module _ {O I : Type 0} (fine : I → Bool) where
  -- a program that sets no count limit of its own interpreter but the one that is asked for, and asks for one only below
  abbrev pub Ruled : Option Entry → Prog O I → Type 0
  Ruled a (done c) = Unit {0}
  Ruled a (exit n) = Unit {0}
  Ruled a (act d k) = Ruled_act a d × ((T : Tree O) → Ruled a (k T))
  Ruled a (go i k) = (fine i ≡ true) × ((c : Completion) → Ruled a (k c))
  Ruled a (inside b i k) = (fine i ≡ true) × ((c : Completion) → Ruled a (k c))
  Ruled a (call h down i lost k) = AsksBelow down i × ((s : Said) → Ruled a (k s))
  Ruled a (wait s k) = (y : Said) → Ruled a (k y)

  pub record Rules (prog : Table O I) : Type 0 where
    pub programs : (i : I) → fine i ≡ true → Ruled None (prog.program i)
    pub entries : (i : Entry) → sets_steps i ≡ false → Ruled None (prog.entry i)
    pub limiting : (i : Entry) → sets_steps i ≡ true → Ruled (Some i) (prog.entry i)

module _ {O I : Type 0} (prog : Table O I) (fine : I → Bool) (all : Rules fine prog) (l : ℕ) where
  -- ## What happens

  abbrev Fine : Place → What O → Type 0
  Fine p (Limited x) = p ≡ [] → AtMost l x
  Fine p x = Unit {0}

  abbrev AreFine : List (Event O) → Type 0
  AreFine [] = Unit {0}
  AreFine (ev ∷ τ) = Fine ev.place ev.what × AreFine τ

  lowering_where : (o : Option Place) (m : Move O) (ms : List (Move O)) → (AreLowering l (m ∷ ms) → AreLowering l ms) → AreLowering l (where_none o m ms) → AreLowering l ms
  lowering_where None m ms f a = f a
  lowering_where (Some z) m ms f a = a

  lowering_top : (p : Place) (m : Move O) (ms : List (Move O)) → (AreLowering l (m ∷ ms) → AreLowering l ms) → AreLowering l (at_top p m ms) → AreLowering l ms
  lowering_top [] m ms f a = f a
  lowering_top (x ∷ p) m ms f a = a

  lowering_left : (p : Place) (x : What O) (ms : List (Move O)) → AreLowering l (asked p x ms) → AreLowering l ms
  lowering_left p (In h i) ms a = lowering_where (rise_to h p) (Enter p i) ms (λ j. j.1) a
  lowering_left p (Back h y) ms a = lowering_where (rise_to h p) (Come y) ms (λ j. j) a
  lowering_left p (Made o s) ms a = lowering_top p (Born o s) ms (λ j. j) a
  lowering_left p Dropped ms a = lowering_top p Fall ms (λ j. j) a
  lowering_left p (Unfound t i c) ms a = a.1
  lowering_left p _ ms a = a

  -- what is kept of the world
  abbrev Good : World O → Type 0
  Good w = AreLowering l w.moves × KeepsTop w.moves

  good_step : (w : World O) (p : Place) (x : What O) (u : World O) → Fine p x → Step w p x u → Good w → Good u
  good_step w p x u f s (t, k) = (lowering_left p x u.moves (subst (AreLowering l) s.moves t), held_left [] p x u.moves (subst KeepsTop s.moves k))

  -- what an act comes to
  deed_of : (p : Place) (y x : Deed O) → Fine (spot p y.0) y.1 → Some y ≡ Some x → Fine (spot p x.0) x.1
  deed_of p y x f e = subst (λ z. Fine (spot p z.0) z.1) (Some-inj y e) f

  metered_fine : (p : Place) (m : Meter) (y : What O) (b : Option ℕ) (gs : Grants) (x : Deed O) → Fine p y → metered m y b gs ≡ Some x → Fine (spot p x.0) x.1
  metered_fine p m y (Some n) gs x f e = deed_of p (None, Refused m (Some n), by_limit m n) x tt e
  metered_fine p m y None (Listed []) x f e = absurd (not_both refl e)
  metered_fine p m y None (Listed (Allow ∷ gs)) x f e = deed_of p (None, y, On) x f e
  metered_fine p m y None (Listed (Deny ∷ gs)) x f e = deed_of p (None, Refused m None, Off (Cut Above)) x tt e
  metered_fine p Count y None (Budget zero) x f e = deed_of p (None, Refused Count None, Off (Cut Over)) x tt e
  metered_fine p Count y None (Budget (suc n)) x f e = deed_of p (None, y, On) x f e
  metered_fine p Depth y None (Budget n) x f e = deed_of p (None, y, On) x f e

  changing_fine : (p : Place) (o : O) (n : Option (Node O)) → Fine (spot p (changing o n).0) (changing o n).1
  changing_fine p o None = tt
  changing_fine p o (Some n) = tt

  making_fine : (p : Place) (name : List ℕ) (o : O) (s : Bool) (parent n : Option (Node O)) → Fine (spot p (making name o s parent n).0) (making name o s parent n).1
  making_fine p name o s None n = tt
  making_fine p name o s (Some m) None = tt
  making_fine p name o s (Some m) (Some n) = tt

  dropping_fine : (p : Place) (name : List ℕ) (n : Option (Node O)) → Fine (spot p (dropping name n).0) (dropping name n).1
  dropping_fine p name None = tt
  dropping_fine p name (Some n) = tt

  -- the limit that is asked for may be set at p
  abbrev Licence : Option Entry → Place → Type 0
  Licence a p = (y : Option ℕ) → Sets a y → p ≡ [] → AtMost l y

  decide_fine : (a : Option Entry) (d : Act O) (T : Tree O) (p : Place) (gs : Grants) (x : Deed O) → Licence a p → Ruled_act a d → decide d T p gs ≡ Some x → Fine (spot p x.0) x.1
  decide_fine a Look T p gs x q f e = deed_of p (None, Seen, On) x tt e
  decide_fine a (Change o) T p gs x q f e = deed_of p (changing o (T p)) x (changing_fine p o (T p)) e
  decide_fine a Charge T p gs x q f e = metered_fine p Count Charged (blocked is_spent T p) gs x tt e
  decide_fine a (Limit y) T p gs x q f e = deed_of p (None, Limited y, On) x (q y f) e
  decide_fine a (LimitDepth y) T p gs x q f e = deed_of p (None, DepthLimited y, On) x tt e
  decide_fine a (Make name o s) T p gs x q f e = deed_of p (making name o s (T p) (T (p ++ name ∷ []))) x (making_fine p name o s (T p) (T (p ++ name ∷ []))) e
  decide_fine a (Drop name) T p gs x q f e = deed_of p (dropping name (T (p ++ name ∷ []))) x (dropping_fine p name (T (p ++ name ∷ []))) e

  opens_fine : (b : Wrap O) (T : Tree O) (p : Place) (gs : Grants) (x : Deed O) → opens b T p gs ≡ Some x → Fine (spot p x.0) x.1
  opens_fine Deeper T p gs x e = metered_fine p Depth Nested (blocked is_deep T p) gs x tt e
  opens_fine (Framed o back) T p gs x e = deed_of p (changing o (T p)) x (changing_fine p o (T p)) e

  closes_fine : (p : Place) (b : Wrap O) (m n : Option (Node O)) → Fine p (closes b m n)
  closes_fine p b m n = any_close (Fine p) b m n tt tt (λ o. tt)

  pub record Kept (w v : World O) : Type 0 where
    pub clean : AreFine v.tape → AreFine w.tape
    pub good : Good v

  here : (w : World O) → Good w → Kept w w
  here w g = record { clean = λ a. a; good = g }

  step_kept : (w : World O) (p : Place) (x : What O) (u v : World O) → Fine p x → Step w p x u → Kept u v → Kept w v
  step_kept w p x u v f s k = record { clean = λ a. subst AreFine (sym s.tape) (f, k.clean a); good = k.good }

  then_kept : (w u v : World O) → Kept w u → Kept u v → Kept w v
  then_kept w u v a b = record { clean = λ c. a.clean (b.clean c); good = b.good }

  nobody : (p : Place) → Licence None p
  nobody p = λ y f. absurd f

  -- a program that may set the limit that it is licensed to
  abbrev Licensed : Place → Entry → Type 0
  Licensed t i = (a : Option Entry) × Licence a t × Ruled fine a (prog.entry i)

  -- an entry that is handed in, and the limit that it asks for
  fit_move : (t : Place) (i : Entry) → Lowering l t i → Licensed t i
  fit_move t i f = by (sets_steps i) refl
    where
      by : (b : Bool) → sets_steps i ≡ b → Licensed t i
      by false e = (None, nobody t, all.entries i e)
      by true e = (Some i, (λ y g top. subst (λ q. Lowering l q (SetCountLimit y)) top (subst (λ j. Lowering l t j) g f)), all.limiting i e)

  -- the interpreter that a call goes to isn't the top, where it goes down by a name
  below_top : (o : Option (Node O)) (a : Place) (name : List ℕ) (down : Place) (t : Place) → where_stands o (a ++ name ∷ down) ≡ Some t → t ≡ [] → Prim.⊥
  below_top None a name down t e f = not_both refl e
  below_top (Some n) a name down t e f = no_top a name down (Some-inj t e ∙ f)

  -- an entry of a call within the tree
  fit_call : (T : Tree O) (a : Place) (down : Place) (t : Place) (i : Entry) → AsksBelow down i → reached T a down ≡ Some t → Licensed t i
  fit_call T a [] t i f there = (None, nobody t, all.entries i f)
  fit_call T a (name ∷ down) t i f there = by (sets_steps i) refl
    where
      by : (b : Bool) → sets_steps i ≡ b → Licensed t i
      by false e = (None, nobody t, all.entries i e)
      by true e = (Some i, (λ y g top. absurd (below_top (T (a ++ name ∷ down)) a name down t there top)), all.limiting i e)

  -- the entry that is read
  entry_read : (w : World O) (t : Place) (i : Entry) (u : World O) → Step w t (In None i) u → Good w → Lowering l t i
  entry_read w t i u s g = let h : Lowering l t i × AreLowering l u.moves = subst (AreLowering l) s.moves g.0 in h.0

  exits_kept : (w : World O) (p : Place) (s : Wait) (n : ℤ) (ms : List (Move O)) (v : World O) (e : Ending) → Exits w p s n ms v e → Good w → Kept w v
  exits_kept w p s n ms v e a g =
      exits_so (Kept w) w p s n ms v e (here w g) (λ x. step_kept w p (Back (height_of s) (Replied (Exit n))) v v tt x (here v (good_step w p (Back (height_of s) (Replied (Exit n))) v tt x g))) a

  keep : (a0 : Option Entry) {w : World O} {p : Place} {x : Prog O I} {v : World O} {e : Ending} → Derives prog w p x v e → Licence a0 p → Ruled fine a0 x → Good w → Kept w v
  keep a0 (completed w p y) lic f g = here w g
  keep a0 (exited w p n) lic f g = here w g
  keep a0 (acted w p d k x u v e j on s a) lic f g =
      let l = decide_fine a0 d w.tree p w.grants x lic f.0 j in
      step_kept w _ x.1 u v l s (keep a0 a lic (f.1 (at w.tree p)) (good_step w _ x.1 u l s g))
  keep a0 (refused w p d k x r u j off s) lic f g =
      let l = decide_fine a0 d w.tree p w.grants x lic f.0 j in
      step_kept w _ x.1 u u l s (here u (good_step w _ x.1 u l s g))
  keep a0 (unheard w p d k j t) lic f g = here w g
  keep a0 (went w p i k u y v e a b) lic f g =
      let m = keep None a (nobody _) (all.programs i f.0) g in
      then_kept w u v m (keep a0 b lic (f.1 y) m.good)
  keep a0 (passed w p i k u r q a) lic f g = keep None a (nobody _) (all.programs i f.0) g
  keep a0 (halted w p i k u a) lic f g = keep None a (nobody _) (all.programs i f.0) g
  keep a0 (wrapped w p b i k x inner left closed v y e j on s a t d) lic f g =
      let l = opens_fine b w.tree p w.grants x j in
      let m = keep None a (nobody _) (all.programs i f.0) (good_step w _ x.1 inner l s g) in
      let n = closes_fine p b (inner.tree p) (left.tree p) in
      step_kept w _ x.1 inner v l s (then_kept inner left v m (step_kept left p _ closed v n t (keep a0 d lic (f.1 y) (good_step left p _ closed n t m.good))))
  keep a0 (wrapped_passed w p b i k x inner left closed r q j on s a t) lic f g =
      let l = opens_fine b w.tree p w.grants x j in
      let m = keep None a (nobody _) (all.programs i f.0) (good_step w _ x.1 inner l s g) in
      let n = closes_fine p b (inner.tree p) (left.tree p) in
      step_kept w _ x.1 inner closed l s (then_kept inner left closed m (step_kept left p _ closed closed n t (here closed (good_step left p _ closed n t m.good))))
  keep a0 (wrapped_halted w p b i k x inner left j on s a) lic f g =
      let l = opens_fine b w.tree p w.grants x j in
      step_kept w _ x.1 inner left l s (keep None a (nobody _) (all.programs i f.0) (good_step w _ x.1 inner l s g))
  keep a0 (too_deep w p b i k x u v e j deep s a) lic f g =
      let l = opens_fine b w.tree p w.grants x j in
      step_kept w _ x.1 u v l s (keep a0 a lic (f.1 _) (good_step w _ x.1 u l s g))
  keep a0 (shut w p b i k x r u j off s) lic f g =
      let l = opens_fine b w.tree p w.grants x j in
      step_kept w _ x.1 u u l s (here u (good_step w _ x.1 u l s g))
  keep a0 (unheard_inside w p b i k j t) lic f g = here w g
  keep a0 (called w p None down i lost k a t out inner left told back v r y e z s1 j s2 x s3 so s4 b) lic f g = absurd (not_both refl z)
  keep a0 (called w p (Some h) down i lost k a t out inner left told back v r y e z s1 j s2 x s3 so s4 b) lic f g =
      let g1 = good_step w p _ out tt s1 g in
      let m = (let y = fit_call out.tree a down t i f.0 j in keep y.0 x y.1 y.2) (good_step out t _ inner tt s2 g1) in
      let g3 = good_step left t _ told tt s3 m.good in
      step_kept w p _ out v tt s1 (step_kept out t _ inner v tt s2 (then_kept inner left v m (step_kept left t _ told v tt s3 (step_kept told p _ back v tt s4 (keep a0 b lic (f.1 _) (good_step told p _ back tt s4 g3))))))
  keep a0 (called_passed w p None down i lost k a t out inner left told back r z s1 j s2 x s3 q s4) lic f g = absurd (not_both refl z)
  keep a0 (called_passed w p (Some h) down i lost k a t out inner left told back r z s1 j s2 x s3 q s4) lic f g =
      let g1 = good_step w p _ out tt s1 g in
      let m = (let y = fit_call out.tree a down t i f.0 j in keep y.0 x y.1 y.2) (good_step out t _ inner tt s2 g1) in
      let g3 = good_step left t _ told tt s3 m.good in
      step_kept w p _ out back tt s1 (step_kept out t _ inner back tt s2 (then_kept inner left back m (step_kept left t _ told back tt s3 (step_kept told p _ back back tt s4 (here back (good_step told p _ back tt s4 g3))))))
  keep a0 (called_halted w p None down i lost k a t out inner left z s1 j s2 x) lic f g = absurd (not_both refl z)
  keep a0 (called_halted w p (Some h) down i lost k a t out inner left z s1 j s2 x) lic f g =
      let g1 = good_step w p _ out tt s1 g in
      step_kept w p _ out left tt s1 (step_kept out t _ inner left tt s2 ((let y = fit_call out.tree a down t i f.0 j in keep y.0 x y.1 y.2) (good_step out t _ inner tt s2 g1)))
  keep a0 (unreached w p None down i lost k a out back v e z s1 j s2 x) lic f g = absurd (not_both refl z)
  keep a0 (unreached w p (Some h) down i lost k a out back v e z s1 j s2 x) lic f g =
      let g1 = good_step w p _ out tt s1 g in
      step_kept w p _ out v tt s1 (step_kept out p _ back v tt s2 (keep a0 x lic (f.1 _) (good_step out p _ back tt s2 g1)))
  keep a0 (called_out w p h down i lost k u v e z s a) lic f g =
      let l : Fine p (Out h down i) = tt in
      step_kept w p _ u v l s (keep a0 a lic (or_lost_all (Ruled fine a0) lost k f.1) (good_step w p _ u l s g))
  keep a0 (unanswered w p s k j m t) lic f g = here w g
  keep a0 (unfit w p s k m ms j l n t) lic f g = here w g
  keep a0 (answered w p s k y u v e j l t a) lic f g = step_kept w p _ u v tt t (keep a0 a lic (f _) (good_step w p _ u tt t g))
  keep a0 (heard w p s k y u v e j l t a) lic f g = step_kept w p _ u v tt t (keep a0 a lic (f _) (good_step w p _ u tt t g))
  keep a0 (missed w p s k u v e j l t a) lic f g = step_kept w p _ u v tt t (keep a0 a lic (f _) (good_step w p _ u tt t g))
  keep a0 (answered_passed w p s k r u q j l t) lic f g = step_kept w p _ u u tt t (here u (good_step w p _ u tt t g))
  keep a0 (entered w p s k t i inner left told v r e j there s1 a s2 n b) lic f g =
      let m = (let y = fit_move t i (entry_read w t i inner s1 g) in keep y.0 a y.1 y.2) (good_step w t _ inner tt s1 g) in
      step_kept w t _ inner v tt s1 (then_kept inner left v m (step_kept left t _ told v tt s2 (keep a0 b lic f (good_step left t _ told tt s2 m.good))))
  keep a0 (entered_halted w p s k t i inner left j there s1 a) lic f g =
      step_kept w t _ inner left tt s1 ((let y = fit_move t i (entry_read w t i inner s1 g) in keep y.0 a y.1 y.2) (good_step w t _ inner tt s1 g))
  keep a0 (entered_exiting w p s k t i inner left told v n e j there s1 a s2 b) lic f g =
      let m = (let y = fit_move t i (entry_read w t i inner s1 g) in keep y.0 a y.1 y.2) (good_step w t _ inner tt s1 g) in
      step_kept w t _ inner v tt s1 (then_kept inner left v m (step_kept left t _ told v tt s2 (exits_kept told p s n told.moves v e b (good_step left t _ told tt s2 m.good))))
  keep a0 (born w p s k o b u v e j t a) lic f g =
      let h : KeepsTop (Born o b ∷ u.moves) = subst KeepsTop t.moves g.1 in
      absurd h
  keep a0 (unfound w p s k t i u v e j there z a) lic f g = step_kept w [] _ u v tt z (keep a0 a lic f (good_step w [] _ u tt z g))
  keep a0 (fallen w p s k u v e j t a) lic f g = step_kept w [] _ u v tt t (keep a0 a lic f (good_step w [] _ u tt t g))

  -- ## In the subtree at c, and at c itself

  fine_view : (c : Place) (w v : World O) → Lives prog w v None → v.tape ≡ [] → AreLowering l (moves_of (view c w.tape)) → KeepsTop (moves_of (view c w.tape)) → AreFine (view c w.tape)
  fine_view c w v a f m t =
      let k : Kept (inside_of c w) (inside_of c v) = keep None (runs_derived prog (inside_of c w) [] (wait idle never) (inside_of c v) None (lives_within prog c w v a)) (nobody []) (λ y. tt) (m, t) in
      k.clean (subst (λ τ. AreFine (view c τ)) (sym f) tt)

  own_place : (c p : Place) → strip p c ≡ Some [] → strip c p ≡ Some []
  own_place c p e = subst (λ r. strip r p ≡ Some []) (sym (strip-sound p c [] e ∙ append-nil p)) (subst (λ r. strip p r ≡ Some []) (append-nil p) (strip_own p []))

  fine_later : (s b : Option Place) (x : What O) (σ : List (Event O)) → AreFine (kept s b x σ) → AreFine σ
  fine_later None None x σ f = f
  fine_later None (Some z) Dropped σ f = f.1
  fine_later None (Some z) _ σ f = f
  fine_later (Some q) b x σ f = f.1

  lowers_one : (s b : Option Place) (x : What O) (σ : List (Event O)) → (b ≡ Some [] → s ≡ Some []) → AreFine (kept s b x σ) → Lowers l x b
  lowers_one s (Some []) (Limited y) σ e f = let g : AreFine (kept (Some []) (Some []) (Limited y) σ) = subst (λ o. AreFine (kept o (Some []) (Limited y) σ)) (e refl) f in g.0 refl
  lowers_one s (Some (z ∷ q)) (Limited y) σ e f = tt
  lowers_one s None (Limited y) σ e f = tt
  lowers_one s b x σ e f = tt

  lowers : (c : Place) (τ : List (Event O)) → AreFine (view c τ) → IsLowering l c τ
  lowers c [] f = tt
  lowers c (ev ∷ τ) f =
      (lowers_one (strip c ev.place) (strip ev.place c) ev.what (view c τ) (own_place c ev.place) f, lowers c τ (fine_later (strip c ev.place) (strip ev.place c) ev.what (view c τ) f))

  pub lowering : (c : Place) (w v : World O) → Lives prog w v None → v.tape ≡ [] → AreLowering l (moves_of (view c w.tape)) → KeepsTop (moves_of (view c w.tape)) → IsLowering l c w.tape
  lowering c w v a f m t = lowers c w.tape (fine_view c w v a f m t)

-- ## Tables that set limits as they are asked to

never_may : {A : Type 0} → false ≡ true → A
never_may e = absurd (clash e)
  where
    clash : false ≡ true → Prim.⊥
    clash f = cc

module _ {O I : Type 0} (fine : I → Bool) where
  ruled_of : (x : Prog O I) → LimitsBelow fine false x → Ruled fine None x
  ruled_of (done c) f = tt
  ruled_of (exit n) f = tt
  ruled_of (act (Limit y) k) f = never_may f.0
  ruled_of (act Look k) f = (tt, λ T. ruled_of (k T) (f T))
  ruled_of (act (Change o) k) f = (tt, λ T. ruled_of (k T) (f T))
  ruled_of (act Charge k) f = (tt, λ T. ruled_of (k T) (f T))
  ruled_of (act (LimitDepth y) k) f = (tt, λ T. ruled_of (k T) (f T))
  ruled_of (act (Make name o s) k) f = (tt, λ T. ruled_of (k T) (f T))
  ruled_of (act (Drop name) k) f = (tt, λ T. ruled_of (k T) (f T))
  ruled_of (go i k) f = (f.0, λ c. ruled_of (k c) (f.1 c))
  ruled_of (inside b i k) f = (f.0, λ c. ruled_of (k c) (f.1 c))
  ruled_of (call h down i lost k) f = (f.0, λ s. ruled_of (k s) (f.1 s))
  ruled_of (wait s k) f = λ y. ruled_of (k y) (f y)

  pub rules_of : (prog : Table O I) → KeepTops fine prog → ((i : Entry) → sets_steps i ≡ true → Ruled fine (Some i) (prog.entry i)) → Rules fine prog
  rules_of prog all f = record {
    programs = λ i e. ruled_of (prog.program i) (all.programs i e);
    entries = λ i e. ruled_of (prog.entry i) (all.entries i e);
    limiting = f;
  }
