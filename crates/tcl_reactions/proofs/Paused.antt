-- A run up to where control next comes in from outside: it is one with the moves until then alone, and under each budget of the steps
-- until then, or more.
use Rattle.tcl_core.proofs.TreeLaws.{reached_stands}
use Rattle.std.proofs.Common.{sym, ◌≡◌, ◌⊎◌, inl, inr, ℕ, ℤ, ◌+◌, Bool, true, false, List, [], ◌∷◌, ◌++◌, Some, None, length, refl, ◌∙◌, ap, subst}
use Rattle.tcl_core.specs.Paths.{Path, Place, Height, rise_to}
use Rattle.tcl_core.specs.Endings.{Completion, Reply, Cause, IsQuit, refusal}
use Rattle.tcl_core.specs.Endings.Meter.{Depth}
use Rattle.tcl_core.specs.Endings.Kind.{Full}
use Rattle.tcl_core.specs.Endings.Reply.{Completed, Stop, Exit, Cut}
use Rattle.tcl_core.specs.Entries.{Entry, Answer, Said}
use Rattle.tcl_core.specs.Entries.Answer.{Replied, Heard, Nobody}
use Rattle.tcl_core.specs.Entries.Said.{Finished, Told, Missed}
use Rattle.tcl_core.specs.Trees.{Tree, What, Event, Move, at, depth_of, granted, Node}
use Rattle.tcl_core.specs.Trees.Grants.{Listed}
use Rattle.tcl_core.specs.Trees.Move.{Born, Fall, Enter, Come}
use Rattle.tcl_core.specs.Trees.What.{Made, Dropped, Out, In, Done, Back, Unfound}
use Rattle.tcl_core.specs.Programs.{Deed, spot, Next, Wrap, Wait, Prog, Table, opens, closes, or_lost}
use Rattle.tcl_core.specs.Programs.Next.{On, Off}
use Rattle.tcl_core.specs.Programs.Prog.{done, exit, act, go, inside, call, wait}
use Rattle.tcl_core.specs.Runs
use Rattle.tcl_core.specs.Runs.{World, Step, Ending, Halts, Exits, Exiting, Follows, Hears, Leaves, Visits, Returns, Reaches, Closes, Opened, Stays, returned, reached, ends_call, height_of}
use Rattle.tcl_core.specs.Rules.{Derives, IsNoExit}
use Rattle.tcl_core.specs.Rules.Derives.{completed, exited, acted, refused, unheard, went, passed, halted, wrapped, wrapped_passed, wrapped_halted, too_deep, shut, unheard_inside, called, called_passed, called_halted, unreached, called_out, unanswered, unfit, answered, heard, missed, answered_passed, entered, entered_halted, entered_exiting, born, fallen, unfound}
use Rattle.tcl_core.specs.Rules.{IsOn}
use Rattle.tcl_core.specs.Execution.{event}
use Rattle.tcl_core.specs.Laws.{IsUnended, ReadsMove, Unended, after}
use Rattle.tcl_core.specs.Lives.{alone}
use Rattle.tcl_core.specs.Views.{moves_of, steps_of}
use Rattle.tcl_core.proofs.Budgets.{step_budget, decide_budget, opens_budget}
use Rattle.tcl_core.proofs.Halts.{halted_tape}
use Rattle.tcl_core.proofs.LifeMoves.{not_cons}
use Rattle.tcl_core.proofs.Parting.{Silent, act_silent, opens_silent, closes_silent, in_silent, back_silent, back_reads}
use Rattle.tcl_core.proofs.PathLaws.{Some-inj}
use Rattle.tcl_core.proofs.Refusals.{carried_is, cut_or}
use Rattle.tcl_core.proofs.RuleLaws.{Ruled, open_rule, reach_rule, enter_rule}
use Rattle.tcl_core.proofs.Unended.{IsNoCut, decide_uncut, on_no_cut, opens_uncut}

-- ## Replies that are ends from outside, and others

completed_not_cut : {A : Type 0} (c : Completion) (x : Cause) → Some (Completed c) ≡ Some (Cut x) → A
completed_not_cut c x e = absurd (bad (Some-inj (Completed c) e))
  where
    bad : Completed c ≡ Cut x → Prim.⊥
    bad f = cc

returned_cut : {O : Type 0} (T U : Tree O) (h : Height) (p : Place) (down : Path) (r : Reply) (x : Cause) → Some r ≡ Some (Cut x) → returned T U h p down r ≡ Cut x
returned_cut T U h p down r x f = carried_is (Runs.gone (depth_of (T p)) U p) h p down r x (Some-inj r f)

returned_not_cut : {O : Type 0} {A : Type 0} (T U : Tree O) (h : Height) (p : Place) (down : Path) (r : Reply) (c : Completion) (x : Cause) → returned T U h p down r ≡ Completed c → Some r ≡ Some (Cut x) → A
returned_not_cut T U h p down r c x e f =
    let g : Completed c ≡ Cut x = sym e ∙ returned_cut T U h p down r x f in
    completed_not_cut c x (ap Some g)

off_cut : (r : Reply) (n : Next) (c : Cause) → n ≡ Off r → n ≡ Off (Cut c) → Some r ≡ Some (Cut c)
off_cut r n c e f = let g : Off r ≡ Off (Cut c) = sym e ∙ f in cc

-- an entry from outside that isn't ended from there isn't cut off
pub done_not_cut : {A : Type 0} (O : Type 0) (t : Place) (r : Reply) (x : Cause) → Unended {O = O} t (Done None r) → Some r ≡ Some (Cut x) → A
done_not_cut O t r x f e = absurd (subst (λ y. Unended {O = O} t (Done None y)) (Some-inj r e) f refl)

-- The happenings: `next` reads a move, and `late` comes after it.
module _ {O : Type 0} (k : ℕ) (next : Event O) (late : List (Event O)) where
  -- the tree with what these happenings read, and k steps more
  abbrev pub lent : Tree O → List (Event O) → World O
  lent T a = alone T (moves_of a) (steps_of a + k) a

  -- What becomes of a run in whose tape a comes before `next`: it came to its end before that, and comes to it so; it was ended from
  -- outside before, and G holds; or it stops there. D says what a run is that is lent what a reads.
  pub data Part (G : Type 0) (w v : World O) (D : World O → Ending → Type 0) (e : Ending) (a : List (Event O)) : Type 0 where
    whole : (a1 : List (Event O)) → v.tape ≡ a1 ++ next ∷ late → IsUnended a1 → after a w.tree ≡ after a1 v.tree → D (lent v.tree a1) e → Part G w v D e a
    gone : (c : Cause) (a1 : List (Event O)) → v.tape ≡ a1 ++ next ∷ late → IsUnended a1 → e ≡ Some (Cut c) → G → Part G w v D e a
    stops : D (lent (after a w.tree) []) None → Part G w v D e a

  pub no_more : {A : Type 0} (w : World O) (a : List (Event O)) → w.tape ≡ [] → w.tape ≡ a ++ next ∷ late → A
  no_more w [] e t = not_cons next late (sym e ∙ t)
  no_more w (y ∷ a) e t = not_cons y (a ++ next ∷ late) (sym e ∙ t)

  at_once : (G : Type 0) (w : World O) (D : World O → Ending → Type 0) (e : Ending) (a : List (Event O)) → w.tape ≡ a ++ next ∷ late → IsUnended a → D (lent w.tree a) e → Part G w w D e a
  at_once G w D e a t n d = whole a t n refl d

  -- what halts stops there
  halts : (G H : Type 0) (w u : World O) (D E : World O → Ending → Type 0) (a : List (Event O)) → u.tape ≡ [] → Part G w u D None a → ((z : World O) → D z None → E z None) → Part H w u E None a
  halts G H w u D E a t (whole a1 q n g d) f = no_more u a1 t q
  halts G H w u D E a t (gone c a1 q n e h) f = no_more u a1 t q
  halts G H w u D E a t (stops d) f = stops (f (lent (after a w.tree) []) d)

  follow : (G : Type 0) (w u v : World O) (D F : World O → Ending → Type 0) (e : Ending) (a a1 : List (Event O)) → after a w.tree ≡ after a1 u.tree → ((z : World O) (o : Ending) → D z o → F z o) → Part G u v D e a1 → Part G w v F e a
  follow G w u v D F e a a1 g f (whole a2 t n h d) = whole a2 t n (g ∙ h) (f (lent v.tree a2) e d)
  follow G w u v D F e a a1 g f (gone c a2 t n q h) = gone c a2 t n q h
  follow G w u v D F e a a1 g f (stops d) = stops (subst (λ T. F (lent T []) None) (sym g) (f (lent (after a1 u.tree) []) None d))

  lent_step : (w : World O) (p : Place) (x : What O) (u : World O) (a : List (Event O)) → Step w p x u → Step (lent w.tree (event p x ∷ a)) p x (lent u.tree a)
  lent_step w p x u a s = step_budget k first p x second (record { tape = refl; tree = s.tree; moves = refl; grants = refl })
    where
      first : World O
      first = record { tree = w.tree; moves = moves_of (event p x ∷ a); grants = granted p x (Listed []); tape = event p x ∷ a }

      second : World O
      second = record { tree = u.tree; moves = moves_of a; grants = Listed []; tape = a }

  -- one happening, and then the rest
  taken : (G : Type 0) (w u v : World O) (p : Place) (x : What O) (D E : List (Event O) → World O → Ending → Type 0) (e : Ending) (a : List (Event O)) → Step w p x u → w.tape ≡ a ++ next ∷ late → IsUnended a →
      (a ≡ [] → next ∷ late ≡ event p x ∷ u.tape → Part G w v (E []) e []) →
      ((a1 : List (Event O)) (z : World O) (o : Ending) → Step (lent w.tree (event p x ∷ a1)) p x (lent u.tree a1) → D a1 z o → E (event p x ∷ a1) z o) →
      ((a1 : List (Event O)) → u.tape ≡ a1 ++ next ∷ late → IsUnended a1 → Part G u v (D a1) e a1) → Part G w v (E a) e a
  taken G w u v p x D E e [] s t n none build rec = none refl (sym t ∙ s.tape)
  taken G w u v p x D E e (ev ∷ a) s t n none build rec =
      let h : ev ∷ (a ++ next ∷ late) ≡ event p x ∷ u.tape = sym t ∙ s.tape in
      let one : ev ≡ event p x = cc in
      let r : u.tape ≡ a ++ next ∷ late = cc in
      subst (λ y. Part G w v (E (y ∷ a)) e (y ∷ a)) (sym one) (follow G w u v (D a) (E (event p x ∷ a)) e (event p x ∷ a) a (ap (after a) (sym s.tree)) (λ z o d. build a z o (lent_step w p x u a s) d) (rec a r n.1))

  -- an inner run, and then the rest
  joined : (G H : Type 0) (w u v : World O) (D : World O → Ending → Type 0) (F : List (Event O) → World O → Ending → Type 0) (E : World O → Ending → Type 0) (o e : Ending) (a : List (Event O)) → Part G w u D o a →
      ((z : World O) → D z None → E z None) →
      ((c : Cause) (a1 : List (Event O)) → u.tape ≡ a1 ++ next ∷ late → IsUnended a1 → o ≡ Some (Cut c) → G → Part H w v E e a) →
      ((a1 : List (Event O)) (z : World O) (n : Ending) → D (lent u.tree a1) o → F a1 z n → E z n) →
      ((a1 : List (Event O)) → u.tape ≡ a1 ++ next ∷ late → IsUnended a1 → Part H u v (F a1) e a1) → Part H w v E e a
  joined G H w u v D F E o e a (whole a1 t n g d) stop ends build cont = follow H w u v (F a1) E e a a1 g (λ z m f. build a1 z m d f) (cont a1 t n)
  joined G H w u v D F E o e a (gone c a1 t n q h) stop ends build cont = ends c a1 t n q h
  joined G H w u v D F E o e a (stops d) stop ends build cont = stops (stop (lent (after a w.tree) []) d)

  module _ (reads : ReadsMove next) where
    -- what reads no move isn't `next`
    not_next : {A : Type 0} (p : Place) (x : What O) (τ : List (Event O)) → Silent p x → next ∷ late ≡ event p x ∷ τ → A
    not_next p x τ f e =
        let one : next ≡ event p x = cc in
        let g : ReadsMove (event p x) = subst ReadsMove one reads in
        not_cons (g []).0 [] (sym (f []) ∙ (g []).1)

    -- such a happening comes before it
    pub peeled : (w : World O) (p : Place) (x : What O) (u : World O) (a : List (Event O)) → Step w p x u → Silent p x → w.tape ≡ a ++ next ∷ late → IsUnended a → (a1 : List (Event O)) × (u.tape ≡ a1 ++ next ∷ late) × Unended p x × IsUnended a1 × (a ≡ event p x ∷ a1)
    peeled w p x u [] s f t n = not_next p x u.tape f (sym t ∙ s.tape)
    peeled w p x u (ev ∷ a) s f t n =
        let h : ev ∷ (a ++ next ∷ late) ≡ event p x ∷ u.tape = sym t ∙ s.tape in
        let one : ev ≡ event p x = cc in
        let r : u.tape ≡ a ++ next ∷ late = cc in
        (a, r, subst (λ y. Unended y.place y.what) one n.0, n.1, ap (λ y. y ∷ a) one)

    -- one that reads no move, and then the rest
    silent : (G : Type 0) (w u v : World O) (p : Place) (x : What O) (D E : List (Event O) → World O → Ending → Type 0) (e : Ending) (a : List (Event O)) → Step w p x u → Silent p x → w.tape ≡ a ++ next ∷ late → IsUnended a →
        ((a1 : List (Event O)) (z : World O) (o : Ending) → Step (lent w.tree (event p x ∷ a1)) p x (lent u.tree a1) → D a1 z o → E (event p x ∷ a1) z o) →
        ((a1 : List (Event O)) → u.tape ≡ a1 ++ next ∷ late → IsUnended a1 → Part G u v (D a1) e a1) → Part G w v (E a) e a
    silent G w u v p x D E e a s f t n build rec = taken G w u v p x D E e a s t n (λ q g. not_next p x u.tape f g) build rec

module _ {O I : Type 0} (prog : Table O I) (k : ℕ) (next : Event O) (late : List (Event O)) (reads : ReadsMove next) where
  abbrev given : Tree O → List (Event O) → World O
  given T a = lent k next late T a

  abbrev Of : Type 0 → World O → World O → (World O → Ending → Type 0) → Ending → List (Event O) → Type 0
  Of G w v D e a = Part k next late G w v D e a

  abbrev Run_of : Tree O → Place → Prog O I → List (Event O) → World O → Ending → Type 0
  Run_of T p x a z o = Derives prog (given T a) p x z o

  abbrev pub Paused : World O → Place → Prog O I → World O → Ending → List (Event O) → Type 0
  Paused w p x v e a = Of (Unit {0}) w v (Run_of w.tree p x a) e a

  abbrev Meets : World O → List (Event O) → Type 0
  Meets w a = w.tape ≡ a ++ next ∷ late

  abbrev Goes : World O → Place → Prog O I → World O → Ending → Type 0
  Goes w p x v e = (a : List (Event O)) → Meets w a → IsUnended a → Paused w p x v e a

  -- a run that ends so
  abbrev Ends_so : Reply → World O → List (Event O) → World O → Ending → Type 0
  Ends_so r u a z o = (o ≡ Some r) × (z ≡ given u.tree a)

  ends_so : (w u z : World O) (p : Place) (x : Prog O I) (r : Reply) (a : List (Event O)) (o : Ending) → Derives prog w p x (given u.tree a) (Some r) → Ends_so r u a z o → Derives prog w p x z o
  ends_so w u z p x r a o d f = subst (λ y. Derives prog w p x z y) (sym f.0) (subst (λ y. Derives prog w p x y (Some r)) (sym f.1) d)

  ended : (G : Type 0) (u : World O) (r : Reply) (a : List (Event O)) → Meets u a → IsUnended a → Of G u u (Ends_so r u a) (Some r) a
  ended G u r a t n = at_once k next late G u (Ends_so r u a) (Some r) a t n (refl, refl)

  quits_ruled : (w : World O) (p : Place) (y : Completion → Prog O I) (r : Reply) (v : World O) (e : Ending) → IsQuit r → v ≡ w → e ≡ Some r → Follows (Ruled prog) w p y r v e
  quits_ruled w p y (Completed c) v e f a b = absurd f
  quits_ruled w p y (Stop n m) v e f a b = (a, b)
  quits_ruled w p y (Exit n) v e f a b = (a, b)
  quits_ruled w p y (Cut c) v e f a b = (a, b)

  hears_ruled : (w : World O) (p : Place) (y : Said → Prog O I) (r : Reply) (v : World O) (e : Ending) → IsQuit r → v ≡ w → e ≡ Some r → Hears (Ruled prog) w p y (Replied r) v e
  hears_ruled w p y (Completed c) v e f a b = absurd f
  hears_ruled w p y (Stop n m) v e f a b = (a, b)
  hears_ruled w p y (Exit n) v e f a b = (a, b)
  hears_ruled w p y (Cut c) v e f a b = (a, b)

  stays_ruled : (w : World O) (p : Place) (s : Wait) (y : Said → Prog O I) (r : Reply) (v : World O) (e : Ending) → IsNoExit r → Derives prog w p (wait s y) v e → Stays (Ruled prog) w p s y (Some r) v e
  stays_ruled w p s y (Completed c) v e f a = a
  stays_ruled w p s y (Stop n m) v e f a = a
  stays_ruled w p s y (Cut c) v e f a = a
  stays_ruled w p s y (Exit n) v e f a = absurd f

  -- an act that is refused
  offed : (w u : World O) (p : Place) (x : Deed O) (r : Reply) (E : List (Event O) → World O → Ending → Type 0) (a : List (Event O)) → Step w (spot p x.0) x.1 u → Silent (spot p x.0) x.1 → x.2 ≡ Off r →
      (IsNoCut x.2 → (a1 : List (Event O)) (z : World O) (o : Ending) → Step (given w.tree (event (spot p x.0) x.1 ∷ a1)) (spot p x.0) x.1 (given u.tree a1) → Ends_so r u a1 z o → E (event (spot p x.0) x.1 ∷ a1) z o) →
      Meets w a → IsUnended a → Of (Unit {0}) w u (E a) (Some r) a
  offed w u p x r E a s f off build t n = by (cut_or x.2)
    where
      by : IsNoCut x.2 ⊎ ((c : Cause) × (x.2 ≡ Off (Cut c))) → Of (Unit {0}) w u (E a) (Some r) a
      by (inl c) = silent k next late reads (Unit {0}) w u u (spot p x.0) x.1 (Ends_so r u) E (Some r) a s f t n (build c) (λ a1 t1 n1. ended (Unit {0}) u r a1 t1 n1)
      by (inr (c, e)) = let g = peeled k next late reads w (spot p x.0) x.1 u a s f t n in gone c g.0 g.1 g.3 (off_cut r x.2 c off e) tt

  -- ## An entry that comes to its end

  abbrev Visit_of : Tree O → Height → Place → Entry → List (Event O) → World O → Ending → Type 0
  Visit_of T h t i a z o = Visits prog (Ruled prog) (given T a) h t i z o

  abbrev Left_of : World O → World O → Height → Place → Entry → List (Event O) → World O → Ending → Type 0
  Left_of w inner h t i a z o = (y : World O) × Derives prog (given inner.tree a) t (prog.entry i) y o × Leaves y h t o z

  abbrev Told_of : World O → Height → Place → Reply → List (Event O) → World O → Ending → Type 0
  Told_of left h t r a z o = (o ≡ Some r) × Step (given left.tree a) t (Done h r) z

  told_so : (left told : World O) (h : Height) (t : Place) (r : Reply) (a : List (Event O)) → Step left t (Done h r) told → Meets left a → IsUnended a → Of (Unended {O = O} t (Done h r)) left told (Told_of left h t r a) (Some r) a
  told_so left told h t r a s q n =
      silent k next late reads (Unended {O = O} t (Done h r)) left told told t (Done h r) (Ends_so r told) (Told_of left h t r) (Some r) a s (λ ms. refl) q n
      (λ a1 z o st d. (d.0, subst (λ y. Step (given left.tree (event t (Done h r) ∷ a1)) t (Done h r) y) (sym d.1) st)) (λ a1 q1 n1. ended (Unended {O = O} t (Done h r)) told r a1 q1 n1)

  visited : (w inner left told : World O) (h : Height) (t : Place) (i : Entry) (r : Reply) (a : List (Event O)) {node : Node O} → w.tree t ≡ Some node → Step w t (In h i) inner → Meets w a → IsUnended a →
      (a ≡ [] → next ∷ late ≡ event t (In h i) ∷ inner.tape → Of (Unended {O = O} t (Done h r)) w told (Visit_of w.tree h t i []) (Some r) []) →
      Goes inner t (prog.entry i) left (Some r) → Step left t (Done h r) told → Of (Unended {O = O} t (Done h r)) w told (Visit_of w.tree h t i a) (Some r) a
  visited w inner left told h t i r a here s1 q n none sub s2 =
      taken k next late (Unended {O = O} t (Done h r)) w inner told t (In h i) (Left_of w inner h t i) (Visit_of w.tree h t i) (Some r) a s1 q n none
      (λ a1 z o st d. record { node = _; stands = here; entered = given inner.tree a1; left = d.0; entry = st; run = d.1; leaving = d.2 })
      (λ a1 q1 n1. joined k next late (Unit {0}) (Unended {O = O} t (Done h r)) inner left told (Run_of inner.tree t (prog.entry i) a1) (Told_of left h t r) (Left_of w inner h t i a1) (Some r) (Some r) a1 (sub a1 q1 n1)
      (λ z d. (z, d, refl))
      (λ c a2 q2 n2 e u. let g = peeled k next late reads left t (Done h r) told a2 s2 (λ ms. refl) q2 n2 in gone c g.0 g.1 g.3 e g.2)
      (λ a2 z o d e. (given left.tree a2, subst (λ y. Derives prog (given inner.tree a1) t (prog.entry i) (given left.tree a2) y) (sym e.0) d, subst (λ y. Leaves (given left.tree a2) h t y z) (sym e.0) e.1))
      (λ a2 q2 n2. told_so left told h t r a2 s2 q2 n2))

  -- after an entry that ended by an exit
  abbrev Exits_of : Tree O → Place → Wait → ℤ → List (Event O) → World O → Ending → Type 0
  Exits_of T p s n a z o = Exits (given T a) p s n (moves_of a) z o

  abbrev exit_back : Wait → ℤ → What O
  exit_back s n = Back (height_of s) (Replied (Exit n))

  exits_paused : (w : World O) (p : Place) (s : Wait) (n : ℤ) (ms : List (Move O)) (v : World O) (e : Ending) → rise_to (height_of s) p ≡ None → w.moves ≡ ms → Exits w p s n ms v e → (a : List (Event O)) → Meets w a → IsUnended a →
      Of (Unit {0}) w v (Exits_of w.tree p s n a) e a
  exits_paused w p s n ms v e f m x a t une = by ms m x
    where
      halt : Halts w v e → Of (Unit {0}) w v (Exits_of w.tree p s n a) e a
      halt y = no_more k next late w a y.tape t

      same_answer : (y : Answer) (ms : List (Move O)) → w.moves ≡ Come y ∷ ms → w.moves ≡ Come (Replied (Exit n)) ∷ v.moves → y ≡ Replied (Exit n)
      same_answer y ms g h = let i : Come y ∷ ms ≡ Come (Replied (Exit n)) ∷ v.moves = sym g ∙ h in cc

      exiting : ends_call s n (Replied (Exit n)) ≡ true → e ≡ Some (Exit n) → (a1 : List (Event O)) (z : World O) (o : Ending) → Step (given w.tree (event p (exit_back s n) ∷ a1)) p (exit_back s n) (given v.tree a1) → (o ≡ e) × (z ≡ given v.tree a1) → Exits_of w.tree p s n (event p (exit_back s n) ∷ a1) z o
      exiting ends q a1 z o st d =
          subst (λ l. Exits (given w.tree (event p (exit_back s n) ∷ a1)) p s n l z o) (back_reads prog p (height_of s) (Replied (Exit n)) f (moves_of a1))
          (subst (λ l. Exiting (given w.tree (event p (exit_back s n) ∷ a1)) p s n l z o) (sym ends) (subst (λ u. Step (given w.tree (event p (exit_back s n) ∷ a1)) p (exit_back s n) u) (sym d.1) st, d.0 ∙ q))

      back : (y : Answer) (ms : List (Move O)) → w.moves ≡ Come y ∷ ms → (l : Bool) → ends_call s n y ≡ l → Exiting w p s n l v e → Of (Unit {0}) w v (Exits_of w.tree p s n a) e a
      back y ms g false h z = halt z
      back y ms g true h (st, q) =
          taken k next late (Unit {0}) w v v p (exit_back s n) (λ a1 z o. (o ≡ e) × (z ≡ given v.tree a1)) (Exits_of w.tree p s n) e a st t une
          (λ e1 e2. stops (record { tape = refl; same = refl; ending = refl }))
          (exiting (subst (λ r. ends_call s n r ≡ true) (same_answer y ms g (st.moves ∙ sym (back_reads prog p (height_of s) (Replied (Exit n)) f v.moves))) h) q)
          (λ a1 t1 n1. at_once k next late (Unit {0}) v (λ z o. (o ≡ e) × (z ≡ given v.tree a1)) e a1 t1 n1 (refl, refl))

      by : (ms : List (Move O)) → w.moves ≡ ms → Exits w p s n ms v e → Of (Unit {0}) w v (Exits_of w.tree p s n a) e a
      by [] g y = halt y
      by (Come z ∷ ms) g y = back z ms g (ends_call s n z) refl y
      by (Born o l ∷ ms) g y = halt y
      by (Fall ∷ ms) g y = halt y
      by (Enter u i ∷ ms) g y = halt y

  -- ## All rules

  stops_here : (w v : World O) (p : Place) (s : Wait) (y : Said → Prog O I) (e : Ending) → rise_to (height_of s) p ≡ None → Paused w p (wait s y) v e []
  stops_here w v p s y e f = stops (unanswered (given w.tree []) p s y f refl refl)

  -- what comes in from outside where a program waits
  comes : (w u v : World O) (p t : Place) (x : What O) (s : Wait) (y : Said → Prog O I) (D : List (Event O) → World O → Ending → Type 0) (e : Ending) (a : List (Event O)) → rise_to (height_of s) p ≡ None → Step w t x u → Meets w a → IsUnended a →
      ((a1 : List (Event O)) (z : World O) (o : Ending) → Step (given w.tree (event t x ∷ a1)) t x (given u.tree a1) → D a1 z o → Derives prog (given w.tree (event t x ∷ a1)) p (wait s y) z o) →
      ((a1 : List (Event O)) → Meets u a1 → IsUnended a1 → Of (Unit {0}) u v (D a1) e a1) → Paused w p (wait s y) v e a
  comes w u v p t x s y D e a f st q n build rec = taken k next late (Unit {0}) w u v t x D (Run_of w.tree p (wait s y)) e a st q n (λ g h. stops_here w v p s y e f) build rec

  enters : (w inner left told v : World O) (p : Place) (s : Wait) (y : Said → Prog O I) (t : Path) (i : Entry) (r : Reply) (e : Ending) (F : List (Event O) → World O → Ending → Type 0) {node : Node O} → rise_to (height_of s) p ≡ None → w.tree t ≡ Some node → Step w t (In None i) inner →
      Goes inner t (prog.entry i) left (Some r) → Step left t (Done None r) told →
      ((a1 : List (Event O)) (z : World O) (o : Ending) → F a1 z o → Stays (Ruled prog) (given told.tree a1) p s y (Some r) z o) →
      ((a1 : List (Event O)) → Meets told a1 → IsUnended a1 → Of (Unit {0}) told v (F a1) e a1) → Goes w p (wait s y) v e
  enters w inner left told v p s y t i r e F f here s1 sub s2 stay rest [] q n = stops_here w v p s y e f
  enters w inner left told v p s y t i r e F f here s1 sub s2 stay rest (ev ∷ a) q n =
      joined k next late (Unended {O = O} t (Done None r)) (Unit {0}) w told v (Visit_of w.tree None t i (ev ∷ a)) F (Run_of w.tree p (wait s y) (ev ∷ a)) (Some r) e (ev ∷ a)
      (visited w inner left told None t i r (ev ∷ a) here s1 q n (λ g h. not_cons ev a (sym g)) sub s2)
      (λ z d. enter_rule prog (given w.tree (ev ∷ a)) p s y t i z None z None f d (refl, refl))
      (λ c a1 q1 n1 g u. done_not_cut O t r c u g)
      (λ a1 z o d1 d2. enter_rule prog (given w.tree (ev ∷ a)) p s y t i (given told.tree a1) (Some r) z o f d1 (stay a1 z o d2)) rest

  -- an inner evaluation in a wrap, between what that does and undoes
  enclosed : (w inner left closed v : World O) (p : Place) (l : Wrap O) (i : I) (y : Completion → Prog O I) (x : Deed O) (r : Reply) (e : Ending) (F : List (Event O) → World O → Ending → Type 0) → opens l w.tree p w.grants ≡ Some x → x.2 ≡ On → Step w (spot p x.0) x.1 inner →
      Goes inner p (prog.program i) left (Some r) → Step left p (closes l (inner.tree p) (left.tree p)) closed →
      ((c : Cause) → Some r ≡ Some (Cut c) → (v.tape ≡ closed.tape) × (e ≡ Some (Cut c))) →
      ((a : List (Event O)) (z : World O) (o : Ending) → F a z o → Follows (Ruled prog) (given closed.tree a) p y r z o) →
      ((a : List (Event O)) → Meets closed a → IsUnended a → Of (Unit {0}) closed v (F a) e a) → Goes w p (inside l i y) v e
  enclosed w inner left closed v p l i y x r e F g on s sub t ends follows rest a q n =
      silent k next late reads (Unit {0}) w inner v (spot p x.0) x.1 (λ a1 z o. Opened prog (Ruled prog) (given inner.tree a1) p l i y On z o) (Run_of w.tree p (inside l i y)) e a s (opens_silent l w.tree p w.grants x g) q n
      (λ a1 z o st d. open_rule prog (given w.tree (event (spot p x.0) x.1 ∷ a1)) p l i y (Some x) z o (opens_budget l w.tree p w.grants x (steps_of a1) k g (opens_uncut l w.tree p w.grants x g (on_no_cut x.2 (subst IsOn (sym on) tt))))
      (given inner.tree a1, st, subst (λ j. Opened prog (Ruled prog) (given inner.tree a1) p l i y j z o) (sym on) d))
      (λ a1 q1 n1. joined k next late (Unit {0}) (Unit {0}) inner left v (Run_of inner.tree p (prog.program i) a1) (λ a2 z o. Closes (Ruled prog) (inner.tree p) (given left.tree a2) p l y (Some r) z o) (λ z o. Opened prog (Ruled prog) (given inner.tree a1) p l i y On z o) (Some r) e a1 (sub a1 q1 n1)
      (λ z d. (z, None, d, (refl, refl)))
      (λ c a2 q2 n2 f h. let j = peeled k next late reads left p (closes l (inner.tree p) (left.tree p)) closed a2 t (closes_silent p l (inner.tree p) (left.tree p)) q2 n2 in gone c j.0 ((ends c f).0 ∙ j.1) j.3 (ends c f).1 tt)
      (λ a2 z o d1 d2. (given left.tree a2, Some r, d1, d2))
      (λ a2 q2 n2. silent k next late reads (Unit {0}) left closed v p (closes l (inner.tree p) (left.tree p)) F (λ a3 z o. Closes (Ruled prog) (inner.tree p) (given left.tree a3) p l y (Some r) z o) e a2 t (closes_silent p l (inner.tree p) (left.tree p)) q2 n2
      (λ a3 z o st d. (given closed.tree a3, st, follows a3 z o d)) rest))

  -- a call within the tree
  inward : (w out inner left told back v : World O) (p a0 t : Place) (h : Height) (down : Path) (i : Entry) (lost : Completion) (y : Said → Prog O I) (r : Reply) (e : Ending) (F : List (Event O) → World O → Ending → Type 0) → rise_to h p ≡ Some a0 → Step w p (Out h down i) out →
      reached out.tree a0 down ≡ Some t → Step out t (In (Some (length down)) i) inner → Goes inner t (prog.entry i) left (Some r) → Step left t (Done (Some (length down)) r) told → Step told p (Back h (Replied (returned out.tree told.tree h p down r))) back →
      ((c : Cause) → Some r ≡ Some (Cut c) → (v.tape ≡ back.tape) × (e ≡ Some (Cut c))) →
      ((a : List (Event O)) (z : World O) (o : Ending) → F a z o → Hears (Ruled prog) (given back.tree a) p y (Replied (returned out.tree told.tree h p down r)) z o) →
      ((a : List (Event O)) → Meets back a → IsUnended a → Of (Unit {0}) back v (F a) e a) → Goes w p (call h down i lost y) v e
  inward w out inner left told back v p a0 t h down i lost y r e F f s1 g s2 sub s3 s4 ends hears rest a q n =
      silent k next late reads (Unit {0}) w out v p (Out h down i) (λ a1 z o. Reaches prog (Ruled prog) (given out.tree a1) p h down i lost y (Some t) z o) (Run_of w.tree p (call h down i lost y)) e a s1 (λ ms. refl) q n
      (λ a1 z o st d. reach_rule prog (given w.tree (event p (Out h down i) ∷ a1)) p h down i lost y (given out.tree a1) a0 (Some t) z o f g st d)
      (λ a1 q1 n1. joined k next late (Unended {O = O} t (Done (Some (length down)) r)) (Unit {0}) out told v (Visit_of out.tree (Some (length down)) t i a1) (λ a2 z o. Returns (Ruled prog) (depth_of (out.tree p)) (given told.tree a2) p h down y (Some r) z o) (λ z o. Reaches prog (Ruled prog) (given out.tree a1) p h down i lost y (Some t) z o) (Some r) e a1
      (visited out inner left told (Some (length down)) t i r a1 (reached_stands out.tree a0 down t g).1 s2 q1 n1 (λ _ j. not_next k next late reads t (In (Some (length down)) i) inner.tape (λ ms. sym (in_silent prog out a0 t down i g ms)) j) sub s3)
      (λ z d. (z, None, d, (refl, refl)))
      (λ c a2 q2 n2 j u. let m = peeled k next late reads told p (Back h (Replied (returned out.tree told.tree h p down r))) back a2 s4 (back_silent prog p a0 h (Replied (returned out.tree told.tree h p down r)) f) q2 n2 in gone c m.0 ((ends c j).0 ∙ m.1) m.3 (ends c j).1 tt)
      (λ a2 z o d1 d2. (given told.tree a2, Some r, d1, d2))
      (λ a2 q2 n2. silent k next late reads (Unit {0}) told back v p (Back h (Replied (returned out.tree told.tree h p down r))) F (λ a3 z o. Returns (Ruled prog) (depth_of (out.tree p)) (given told.tree a3) p h down y (Some r) z o) e a2 s4 (back_silent prog p a0 h (Replied (returned out.tree told.tree h p down r)) f) q2 n2
      (λ a3 z o st d. (given back.tree a3, st, hears a3 z o d)) rest))

  pub paused : {w : World O} {p : Place} {x : Prog O I} {v : World O} {e : Ending} → Derives prog w p x v e → Goes w p x v e
  paused (completed w p c) a q n = at_once k next late (Unit {0}) w (Run_of w.tree p (done c) a) (Some (Completed c)) a q n (completed (given w.tree a) p c)
  paused (exited w p m) a q n = at_once k next late (Unit {0}) w (Run_of w.tree p (exit m) a) (Some (Exit m)) a q n (exited (given w.tree a) p m)
  paused (acted w p d y x u v e g on s r) a q n =
      silent k next late reads (Unit {0}) w u v (spot p x.0) x.1 (Run_of u.tree p (y (at w.tree p))) (Run_of w.tree p (act d y)) e a s (act_silent d w.tree p w.grants x g) q n
      (λ a1 z o st b. acted (given w.tree (event (spot p x.0) x.1 ∷ a1)) p d y x (given u.tree a1) z o (decide_budget d w.tree p w.grants x (steps_of a1) k g (decide_uncut d w.tree p w.grants x g (on_no_cut x.2 on))) on st b) (λ a1 q1 n1. paused r a1 q1 n1)
  paused (refused w p d y x r u g off s) a q n =
      offed w u p x r (Run_of w.tree p (act d y)) a s (act_silent d w.tree p w.grants x g) off
      (λ c a1 z o st b. ends_so (given w.tree (event (spot p x.0) x.1 ∷ a1)) u z p (act d y) r a1 o (refused (given w.tree (event (spot p x.0) x.1 ∷ a1)) p d y x r (given u.tree a1) (decide_budget d w.tree p w.grants x (steps_of a1) k g (decide_uncut d w.tree p w.grants x g c)) off st) b) q n
  paused (unheard w p d y g t) a q n = no_more k next late w a t q
  paused (went w p i y u c v e r s) a q n =
      joined k next late (Unit {0}) (Unit {0}) w u v (Run_of w.tree p (prog.program i) a) (Run_of u.tree p (y c)) (Run_of w.tree p (go i y) a) (Some (Completed c)) e a (paused r a q n)
      (λ z d. halted (given w.tree a) p i y z d) (λ c2 a1 q1 n1 f h. completed_not_cut c c2 f) (λ a1 z o d1 d2. went (given w.tree a) p i y (given u.tree a1) c z o d1 d2) (λ a1 q1 n1. paused s a1 q1 n1)
  paused (passed w p i y u r f s) a q n =
      joined k next late (Unit {0}) (Unit {0}) w u u (Run_of w.tree p (prog.program i) a) (Ends_so r u) (Run_of w.tree p (go i y) a) (Some r) (Some r) a (paused s a q n)
      (λ z d. halted (given w.tree a) p i y z d) (λ c2 a1 q1 n1 g h. gone c2 a1 q1 n1 g tt) (λ a1 z o d1 d2. ends_so (given w.tree a) u z p (go i y) r a1 o (passed (given w.tree a) p i y (given u.tree a1) r f d1) d2) (λ a1 q1 n1. ended (Unit {0}) u r a1 q1 n1)
  paused (halted w p i y u s) a q n = halts k next late (Unit {0}) (Unit {0}) w u (Run_of w.tree p (prog.program i) a) (Run_of w.tree p (go i y) a) a (halted_tape prog s refl) (paused s a q n) (λ z d. halted (given w.tree a) p i y z d)
  paused (unheard_inside w p l i y g t) a q n = no_more k next late w a t q
  paused (wrapped w p l i y x inner left closed v c e g on s r t z) a q n =
      enclosed w inner left closed v p l i y x (Completed c) e (Run_of closed.tree p (y c)) g on s (λ a1 q1 n1. paused r a1 q1 n1) t (λ c2 f. completed_not_cut c c2 f) (λ a1 z2 o d. d) (λ a1 q1 n1. paused z a1 q1 n1) a q n
  paused (wrapped_passed w p l i y x inner left closed r f g on s z t) a q n =
      enclosed w inner left closed closed p l i y x r (Some r) (Ends_so r closed) g on s (λ a1 q1 n1. paused z a1 q1 n1) t (λ c h. (refl, h)) (λ a1 z2 o d. quits_ruled (given closed.tree a1) p y r z2 o f d.1 d.0) (λ a1 q1 n1. ended (Unit {0}) closed r a1 q1 n1) a q n
  paused (wrapped_halted w p l i y x inner left g on s r) a q n =
      silent k next late reads (Unit {0}) w inner left (spot p x.0) x.1 (λ a1 z o. (o ≡ None) × Derives prog (given inner.tree a1) p (prog.program i) z None) (Run_of w.tree p (inside l i y)) None a s (opens_silent l w.tree p w.grants x g) q n
      (λ a1 z o st d. subst (λ o2. Derives prog (given w.tree (event (spot p x.0) x.1 ∷ a1)) p (inside l i y) z o2) (sym d.0)
      (wrapped_halted (given w.tree (event (spot p x.0) x.1 ∷ a1)) p l i y x (given inner.tree a1) z (opens_budget l w.tree p w.grants x (steps_of a1) k g (opens_uncut l w.tree p w.grants x g (on_no_cut x.2 (subst IsOn (sym on) tt)))) on st d.1))
      (λ a1 q1 n1. halts k next late (Unit {0}) (Unit {0}) inner left (Run_of inner.tree p (prog.program i) a1) (λ z o. (o ≡ None) × Derives prog (given inner.tree a1) p (prog.program i) z None) a1 (halted_tape prog r refl) (paused r a1 q1 n1) (λ z d. (refl, d)))
  paused (too_deep w p l i y x u v e g deep s r) a q n =
      silent k next late reads (Unit {0}) w u v (spot p x.0) x.1 (Run_of u.tree p (y (refusal (Full Depth)))) (Run_of w.tree p (inside l i y)) e a s (opens_silent l w.tree p w.grants x g) q n
      (λ a1 z o st d. too_deep (given w.tree (event (spot p x.0) x.1 ∷ a1)) p l i y x (given u.tree a1) z o (opens_budget l w.tree p w.grants x (steps_of a1) k g (opens_uncut l w.tree p w.grants x g (on_no_cut x.2 (subst IsOn (sym deep) tt)))) deep st d)
      (λ a1 q1 n1. paused r a1 q1 n1)
  paused (shut w p l i y x r u g off s) a q n =
      offed w u p x r (Run_of w.tree p (inside l i y)) a s (opens_silent l w.tree p w.grants x g) off
      (λ c a1 z o st b. ends_so (given w.tree (event (spot p x.0) x.1 ∷ a1)) u z p (inside l i y) r a1 o (shut (given w.tree (event (spot p x.0) x.1 ∷ a1)) p l i y x r (given u.tree a1) (opens_budget l w.tree p w.grants x (steps_of a1) k g (opens_uncut l w.tree p w.grants x g c)) off st) b) q n
  paused (called w p h down i lost y a0 t out inner left told back v r c e f s1 g s2 x s3 so s4 z) a q n =
      inward w out inner left told back v p a0 t h down i lost y r e (Run_of back.tree p (y (Finished c))) f s1 g s2 (λ a1 q1 n1. paused x a1 q1 n1) s3 s4 (λ c2 j. returned_not_cut out.tree told.tree h p down r c c2 so j)
      (λ a1 z2 o d. subst (λ j. Hears (Ruled prog) (given back.tree a1) p y (Replied j) z2 o) (sym so) d) (λ a1 q1 n1. paused z a1 q1 n1) a q n
  paused (called_passed w p h down i lost y a0 t out inner left told back r f s1 g s2 x s3 j s4) a q n =
      inward w out inner left told back back p a0 t h down i lost y r (Some (returned out.tree told.tree h p down r)) (Ends_so (returned out.tree told.tree h p down r) back) f s1 g s2 (λ a1 q1 n1. paused x a1 q1 n1) s3 s4 (λ c m. (refl, ap Some (returned_cut out.tree told.tree h p down r c m)))
      (λ a1 z o d. hears_ruled (given back.tree a1) p y (returned out.tree told.tree h p down r) z o j d.1 d.0) (λ a1 q1 n1. ended (Unit {0}) back (returned out.tree told.tree h p down r) a1 q1 n1) a q n
  paused (called_halted w p h down i lost y a0 t out inner left f s1 g s2 x) a q n =
      silent k next late reads (Unit {0}) w out left p (Out h down i) (λ a1 z o. Reaches prog (Ruled prog) (given out.tree a1) p h down i lost y (Some t) z o) (Run_of w.tree p (call h down i lost y)) None a s1 (λ ms. refl) q n
      (λ a1 z o st d. reach_rule prog (given w.tree (event p (Out h down i) ∷ a1)) p h down i lost y (given out.tree a1) a0 (Some t) z o f g st d)
      (λ a1 q1 n1. silent k next late reads (Unit {0}) out inner left t (In (Some (length down)) i) (λ a2 z o. (o ≡ None) × Derives prog (given inner.tree a2) t (prog.entry i) z None) (λ a2 z o. Reaches prog (Ruled prog) (given out.tree a2) p h down i lost y (Some t) z o) None a1 s2 (λ ms. sym (in_silent prog out a0 t down i g ms)) q1 n1
      (λ a2 z o st d. (z, None, record { node = (reached_stands out.tree a0 down t g).0; stands = (reached_stands out.tree a0 down t g).1; entered = given inner.tree a2; left = z; entry = st; run = d.1; leaving = refl }, (refl, d.0)))
      (λ a2 q2 n2. halts k next late (Unit {0}) (Unit {0}) inner left (Run_of inner.tree t (prog.entry i) a2) (λ z o. (o ≡ None) × Derives prog (given inner.tree a2) t (prog.entry i) z None) a2 (halted_tape prog x refl) (paused x a2 q2 n2) (λ z d. (refl, d))))
  paused (unreached w p h down i lost y a0 out back v e f s1 g s2 x) a q n =
      silent k next late reads (Unit {0}) w out v p (Out h down i) (λ a1 z o. Reaches prog (Ruled prog) (given out.tree a1) p h down i lost y None z o) (Run_of w.tree p (call h down i lost y)) e a s1 (λ ms. refl) q n
      (λ a1 z o st d. reach_rule prog (given w.tree (event p (Out h down i) ∷ a1)) p h down i lost y (given out.tree a1) a0 None z o f g st d)
      (λ a1 q1 n1. silent k next late reads (Unit {0}) out back v p (Back h (Replied (Completed lost))) (Run_of back.tree p (y (Finished lost))) (λ a2 z o. Reaches prog (Ruled prog) (given out.tree a2) p h down i lost y None z o) e a1 s2 (back_silent prog p a0 h (Replied (Completed lost)) f) q1 n1
      (λ a2 z o st d. (given back.tree a2, st, d)) (λ a2 q2 n2. paused x a2 q2 n2))
  paused (called_out w p h down i lost y u v e f s r) a q n =
      silent k next late reads (Unit {0}) w u v p (Out h down i) (Run_of u.tree p (wait (Some (h, i, depth_of (u.tree p))) (or_lost lost y))) (Run_of w.tree p (call h down i lost y)) e a s (λ ms. refl) q n
      (λ a1 z o st d. called_out (given w.tree (event p (Out h down i) ∷ a1)) p h down i lost y (given u.tree a1) z o f st d) (λ a1 q1 n1. paused r a1 q1 n1)
  paused (unanswered w p s y f g t) a q n = no_more k next late w a t q
  paused (unfit w p s y m ms f g h t) a q n = no_more k next late w a t q
  paused (answered w p s y c u v e f g t r) a q n =
      comes w u v p p (Back (height_of s) (Replied (Completed c))) s y (Run_of u.tree p (y (Finished c))) e a f t q n (λ a1 z o st d. answered (given w.tree (event p (Back (height_of s) (Replied (Completed c))) ∷ a1)) p s y c (given u.tree a1) z o f g st d) (λ a1 q1 n1. paused r a1 q1 n1)
  paused (heard w p s y x u v e f g t r) a q n =
      comes w u v p p (Back (height_of s) (Heard x)) s y (Run_of u.tree p (y (Told x))) e a f t q n (λ a1 z o st d. heard (given w.tree (event p (Back (height_of s) (Heard x)) ∷ a1)) p s y x (given u.tree a1) z o f g st d) (λ a1 q1 n1. paused r a1 q1 n1)
  paused (missed w p s y u v e f g t r) a q n =
      comes w u v p p (Back (height_of s) Nobody) s y (Run_of u.tree p (y Missed)) e a f t q n (λ a1 z o st d. missed (given w.tree (event p (Back (height_of s) Nobody) ∷ a1)) p s y (given u.tree a1) z o f g st d) (λ a1 q1 n1. paused r a1 q1 n1)
  paused (answered_passed w p s y r u j f g t) a q n =
      comes w u u p p (Back (height_of s) (Replied r)) s y (Ends_so r u) (Some r) a f t q n
      (λ a1 z o st d. ends_so (given w.tree (event p (Back (height_of s) (Replied r)) ∷ a1)) u z p (wait s y) r a1 o (answered_passed (given w.tree (event p (Back (height_of s) (Replied r)) ∷ a1)) p s y r (given u.tree a1) j f g st) d) (λ a1 q1 n1. ended (Unit {0}) u r a1 q1 n1)
  paused (entered w p s y t i inner left told v r e f here s1 x s2 j z) a q n =
      enters w inner left told v p s y t i r e (Run_of told.tree p (wait s y)) f here s1 (λ a1 q1 n1. paused x a1 q1 n1) s2 (λ a1 z2 o d. stays_ruled (given told.tree a1) p s y r z2 o j d) (λ a1 q1 n1. paused z a1 q1 n1) a q n
  paused (entered_exiting w p s y t i inner left told v m e f here s1 x s2 z) a q n =
      enters w inner left told v p s y t i (Exit m) e (Exits_of told.tree p s m) f here s1 (λ a1 q1 n1. paused x a1 q1 n1) s2 (λ a1 z2 o d. d) (λ a1 q1 n1. exits_paused told p s m told.moves v e f refl z a1 q1 n1) a q n
  paused (entered_halted w p s y t i inner left f here s1 x) a q n =
      comes w inner left p t (In None i) s y (λ a1 z o. (o ≡ None) × Derives prog (given inner.tree a1) t (prog.entry i) z None) None a f s1 q n
      (λ a1 z o st d. subst (λ o2. Derives prog (given w.tree (event t (In None i) ∷ a1)) p (wait s y) z o2) (sym d.0) (entered_halted (given w.tree (event t (In None i) ∷ a1)) p s y t i (given inner.tree a1) z f here st d.1))
      (λ a1 q1 n1. halts k next late (Unit {0}) (Unit {0}) inner left (Run_of inner.tree t (prog.entry i) a1) (λ z o. (o ≡ None) × Derives prog (given inner.tree a1) t (prog.entry i) z None) a1 (halted_tape prog x refl) (paused x a1 q1 n1) (λ z d. (refl, d)))
  paused (born w p s y o c u v e f t r) a q n =
      comes w u v p [] (Made o c) s y (Run_of u.tree p (wait s y)) e a f t q n (λ a1 z o2 st d. born (given w.tree (event [] (Made o c) ∷ a1)) p s y o c (given u.tree a1) z o2 f st d) (λ a1 q1 n1. paused r a1 q1 n1)
  paused (unfound w p s y t i u v e f here b r) a q n =
      comes w u v p [] (Unfound t i (prog.lost t)) s y (Run_of u.tree p (wait s y)) e a f b q n (λ a1 z o2 st d. unfound (given w.tree (event [] (Unfound t i (prog.lost t)) ∷ a1)) p s y t i (given u.tree a1) z o2 f here st d) (λ a1 q1 n1. paused r a1 q1 n1)
  paused (fallen w p s y u v e f t r) a q n =
      comes w u v p [] Dropped s y (Run_of u.tree p (wait s y)) e a f t q n (λ a1 z o2 st d. fallen (given w.tree (event [] Dropped ∷ a1)) p s y (given u.tree a1) z o2 f st d) (λ a1 q1 n1. paused r a1 q1 n1)
