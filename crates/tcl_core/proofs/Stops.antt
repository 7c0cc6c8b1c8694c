-- After a stop no step is made before it has left.
use Rattle.std.proofs.Common.{sym, ◌≡◌, ℕ, zero, suc, ℤ, ◌+◌, ◌-◌, ◌≤◌, Bool, true, false, nat_le, nat_lt, List, [], ◌∷◌, ◌++◌, Option, Some, None, length, refl, ◌∙◌, ap, subst, arith}
use Rattle.std.proofs.lemmas.Bool.Decides.{nat_tests}
use Rattle.tcl_core.specs.Paths.{Path, Place, Height, strip, rise, rise_to, falls, together}
use Rattle.tcl_core.specs.Endings.{Meter, Completion, Reply, Kind}
use Rattle.tcl_core.specs.Endings.Meter.{Count, Depth}
use Rattle.tcl_core.specs.Endings.Reply.{Completed, Stop, Exit, Cut}
use Rattle.tcl_core.specs.Endings.Cause.{Above, Over}
use Rattle.tcl_core.specs.Entries.{Answer}
use Rattle.tcl_core.specs.Entries.Answer.{Replied}
use Rattle.tcl_core.specs.Trees.{Grants, Tree, Node, What, Move, depth_of}
use Rattle.tcl_core.specs.Trees.Grant.{Allow, Deny}
use Rattle.tcl_core.specs.Trees.Grants.{Listed, Budget}
use Rattle.tcl_core.specs.Trees.What.{Seen, Charged, Refused, Nested, Limited, DepthLimited, Done, Back}
use Rattle.tcl_core.specs.Trees.Move.{Born, Fall, Enter, Come}
use Rattle.tcl_core.specs.Programs.{Deed, spot, Act, Wrap, Wait, Next, Prog, Table, decide, opens, closes, changing, making, dropping, metered, by_limit, blocked, is_spent, is_deep}
use Rattle.tcl_core.specs.Programs.Next.{On, TooDeep, Off}
use Rattle.tcl_core.specs.Programs.Act.{Look, Change, Charge, Limit, LimitDepth, Make, Drop}
use Rattle.tcl_core.specs.Programs.Wrap.{Deeper, Framed}
use Rattle.tcl_core.specs.Runs.{World, Step, Ending, Halts, Exits, Exiting, carried, lessened, reached, ends_call, height_of, gone, ended, carried_by}
use Rattle.tcl_core.specs.Rules.{Derives, IsOn}
use Rattle.tcl_core.specs.Rules.Derives.{completed, exited, acted, refused, unheard, went, passed, halted, wrapped, wrapped_passed, wrapped_halted, too_deep, shut, unheard_inside, called, called_passed, called_halted, unreached, called_out, unanswered, unfit, answered, heard, missed, answered_passed, entered, entered_halted, entered_exiting, born, fallen, unfound}
use Rattle.tcl_core.specs.Laws.{ends_in, raised_in, raised_at, freed, unmoved_by, Unmoved, Obeys, Stopping}
use Rattle.tcl_core.proofs.PathLaws.{not_both, Some-inj, strip_own, strip-sound, rise_to_within, rise_to_out, rise_to_elsewhere, rise_back}
use Rattle.tcl_core.proofs.TreeLaws.{metered_here, opens_here, reached_at, any_close}
use Rattle.tcl_core.proofs.Seeing.{rise-measure}
use Rattle.tcl_core.proofs.RuleLaws.{runs_derived}

bad : {A : Type 0} → false ≡ true → A
bad e = absurd (no2 e)
  where
    no2 : false ≡ true → Prim.⊥
    no2 f = cc

module _ {O : Type 0} where
  -- what an act that goes on comes to raises nothing, and what one that ends comes to is as its end
  abbrev Fits_next : What O → Next → Type 0
  Fits_next x (Off r) = (q : Place) → raised_in q x ≡ ends_in q r
  Fits_next x n = (q : Place) → raised_in q x ≡ false

  next_of : (y x : Deed O) → Fits_next y.1 y.2 → Some y ≡ Some x → Fits_next x.1 x.2
  next_of y x d e = subst (λ z. Fits_next z.1 z.2) (Some-inj y e) d

limit_next : (O : Type 0) (m : Meter) (n : ℕ) → Fits_next {O = O} (Refused m (Some n)) (by_limit m n)
limit_next O Count n = λ q. refl
limit_next O Depth zero = λ q. refl
limit_next O Depth (suc n) = λ q. refl

module _ {O : Type 0} where
  metered_next : (m : Meter) (y : What O) (b : Option ℕ) (gs : Grants) (x : Deed O) → ((q : Place) → raised_in q y ≡ false) → metered m y b gs ≡ Some x → Fits_next x.1 x.2
  metered_next m y (Some n) gs x f e = next_of (None, Refused m (Some n), by_limit m n) x (limit_next O m n) e
  metered_next m y None (Listed []) x f e = absurd (not_both refl e)
  metered_next m y None (Listed (Allow ∷ gs)) x f e = next_of (None, y, On) x f e
  metered_next m y None (Listed (Deny ∷ gs)) x f e = next_of (None, Refused m None, Off (Cut Above)) x (λ q. refl) e
  metered_next Count y None (Budget zero) x f e = next_of (None, Refused Count None, Off (Cut Over)) x (λ q. refl) e
  metered_next Count y None (Budget (suc n)) x f e = next_of (None, y, On) x f e
  metered_next Depth y None (Budget n) x f e = next_of (None, y, On) x f e

  changing_next : (o : O) (n : Option (Node O)) → Fits_next (changing o n).1 (changing o n).2
  changing_next o None = λ q. refl
  changing_next o (Some n) = λ q. refl

  making_next : (name : List ℕ) (o : O) (s : Bool) (parent n : Option (Node O)) → Fits_next (making name o s parent n).1 (making name o s parent n).2
  making_next name o s None n = λ q. refl
  making_next name o s (Some m) None = λ q. refl
  making_next name o s (Some m) (Some n) = λ q. refl

  dropping_next : (name : List ℕ) (n : Option (Node O)) → Fits_next (dropping name n).1 (dropping name n).2
  dropping_next name None = λ q. refl
  dropping_next name (Some n) = λ q. refl

  decide_next : (d : Act O) (T : Tree O) (p : Place) (gs : Grants) (x : Deed O) → decide d T p gs ≡ Some x → Fits_next x.1 x.2
  decide_next Look T p gs x e = next_of (None, Seen, On) x (λ q. refl) e
  decide_next (Change o) T p gs x e = next_of (changing o (T p)) x (changing_next o (T p)) e
  decide_next Charge T p gs x e = metered_next Count Charged (blocked is_spent T p) gs x (λ q. refl) e
  decide_next (Limit l) T p gs x e = next_of (None, Limited l, On) x (λ q. refl) e
  decide_next (LimitDepth l) T p gs x e = next_of (None, DepthLimited l, On) x (λ q. refl) e
  decide_next (Make name o s) T p gs x e = next_of (making name o s (T p) (T (p ++ name ∷ []))) x (making_next name o s (T p) (T (p ++ name ∷ []))) e
  decide_next (Drop name) T p gs x e = next_of (dropping name (T (p ++ name ∷ []))) x (dropping_next name (T (p ++ name ∷ []))) e

  opens_next : (b : Wrap O) (T : Tree O) (p : Place) (gs : Grants) (x : Deed O) → opens b T p gs ≡ Some x → Fits_next x.1 x.2
  opens_next Deeper T p gs x e = metered_next Depth Nested (blocked is_deep T p) gs x (λ q. refl) e
  opens_next (Framed o back) T p gs x e = next_of (changing o (T p)) x (changing_next o (T p)) e

  on_quiet : (x : What O) (n : Next) → IsOn n → Fits_next x n → (q : Place) → raised_in q x ≡ false
  on_quiet x On f g q = g q
  on_quiet x TooDeep f g q = g q
  on_quiet x (Off r) f g q = absurd f

module _ {O : Type 0} (c : Place) where
  -- what is asked of the tape after a run at p that ended so
  abbrev Demand : Place → Ending → World O → Type 0
  Demand p e v = (q : Place) (r : Reply) → strip c p ≡ Some q → e ≡ Some r → ends_in q r ≡ true → Unmoved c v.tape

  -- one happening
  obey : (w : World O) (p : Place) (x : What O) (u : World O) → Step w p x u → (raised_at (strip c p) x ≡ true → Unmoved c u.tape) → Obeys c u.tape → Obeys c w.tape
  obey w p x u s f g = subst (Obeys c) (sym s.tape) (f, g)

  quiet_at : (p : Place) (x : What O) → ((q : Place) → raised_in q x ≡ false) → {A : Type 0} → raised_at (strip c p) x ≡ true → A
  quiet_at p x f e = by (strip c p) e
    where
      by : {A : Type 0} (o : Option Place) → raised_at o x ≡ true → A
      by None g = bad g
      by (Some q) g = bad (sym (f q) ∙ g)

  obey_quiet : (w : World O) (p : Place) (x : What O) (u : World O) → Step w p x u → ((q : Place) → raised_in q x ≡ false) → Obeys c u.tape → Obeys c w.tape
  obey_quiet w p x u s f g = obey w p x u s (λ e. quiet_at p x f e) g

  act_on : (w : World O) (p : Place) (d : Act O) (x : Deed O) (u : World O) → decide d w.tree p w.grants ≡ Some x → IsOn x.2 → Step w (spot p x.0) x.1 u → Obeys c u.tape → Obeys c w.tape
  act_on w p d x u g on s h = obey_quiet w (spot p x.0) x.1 u s (on_quiet x.1 x.2 on (decide_next d w.tree p w.grants x g)) h

  -- an act that ends there: what it raises is its end
  off_raises : (x : Deed O) (r : Reply) → Fits_next x.1 x.2 → x.2 ≡ Off r → (q : Place) → raised_in q x.1 ≡ ends_in q r
  off_raises x r f e = let g : Fits_next x.1 (Off r) = subst (Fits_next x.1) e f in g

  on_not : {A : Type 0} (y x : Deed O) (r : Reply) → y.2 ≡ On → Some y ≡ Some x → x.2 ≡ Off r → A
  on_not y x r f e g = absurd (no2 (sym f ∙ ap (λ z. z.2) (Some-inj y e) ∙ g))
    where
      no2 : On ≡ Off r → Prim.⊥
      no2 h = cc

  pub changing_on : (o : O) (n : Option (Node O)) → (changing o n).2 ≡ On
  changing_on o None = refl
  changing_on o (Some n) = refl

  pub making_on : (name : List ℕ) (o : O) (s : Bool) (parent n : Option (Node O)) → (making name o s parent n).2 ≡ On
  making_on name o s None n = refl
  making_on name o s (Some m) None = refl
  making_on name o s (Some m) (Some n) = refl

  pub dropping_on : (name : List ℕ) (n : Option (Node O)) → (dropping name n).2 ≡ On
  dropping_on name None = refl
  dropping_on name (Some n) = refl

  off_here : (d : Act O) (T : Tree O) (p : Place) (gs : Grants) (x : Deed O) (r : Reply) → decide d T p gs ≡ Some x → x.2 ≡ Off r → x.0 ≡ None
  off_here Look T p gs x r e f = on_not (None, Seen, On) x r refl e f
  off_here (Change o) T p gs x r e f = on_not (changing o (T p)) x r (changing_on o (T p)) e f
  off_here Charge T p gs x r e f = metered_here Count Charged (blocked is_spent T p) gs x e
  off_here (Limit l) T p gs x r e f = on_not (None, Limited l, On) x r refl e f
  off_here (LimitDepth l) T p gs x r e f = on_not (None, DepthLimited l, On) x r refl e f
  off_here (Make name o s) T p gs x r e f = on_not (making name o s (T p) (T (p ++ name ∷ []))) x r (making_on name o s (T p) (T (p ++ name ∷ []))) e f
  off_here (Drop name) T p gs x r e f = on_not (dropping name (T (p ++ name ∷ []))) x r (dropping_on name (T (p ++ name ∷ []))) e f

  raised_as : (p : Place) (x : What O) (r : Reply) (u : World O) → ((q : Place) → raised_in q x ≡ ends_in q r) → Demand p (Some r) u → raised_at (strip c p) x ≡ true → Unmoved c u.tape
  raised_as p x r u f d e = by (strip c p) refl e
    where
      by : (o : Option Place) → strip c p ≡ o → raised_at o x ≡ true → Unmoved c u.tape
      by None g h = bad h
      by (Some q) g h = d q r g refl (sym (f q) ∙ h)

  off_act : (w : World O) (p : Place) (s : Option (List ℕ)) (x : What O) (n : Next) (r : Reply) (u : World O) → s ≡ None → Fits_next x n → n ≡ Off r → Step w (spot p s) x u → Demand p (Some r) u → Obeys c u.tape → Obeys c w.tape
  off_act w p s x n r u e f g t d h =
      let t2 : Step w p x u = subst (λ l. Step w (spot p l) x u) e t in
      obey w p x u t2 (raised_as p x r u (let k : Fits_next x (Off r) = subst (Fits_next x) g f in k) d) h

  -- what a wrap undoes
  close_quiet : (b : Wrap O) (m n : Option (Node O)) (q : Place) → raised_in q (closes b m n) ≡ false
  close_quiet b m n q = any_close (λ x. raised_in q x ≡ false) b m n refl refl (λ o. refl)

  close_unmoved : (b : Wrap O) (m n : Option (Node O)) (s : Option Place) (t : Type 0) → t → unmoved_by s (closes b m n) t
  close_unmoved b m n None t a = any_close (λ x. unmoved_by None x t) b m n a a (λ o. a)
  close_unmoved b m n (Some q) t a = any_close (λ x. unmoved_by (Some q) x t) b m n a a (λ o. a)

  close_demand : (n : Option (Node O)) (w : World O) (p : Place) (b : Wrap O) (u : World O) (e : Ending) → Step w p (closes b n (w.tree p)) u → Demand p e u → Demand p e w
  close_demand n w p b u e s d q r f g h = subst (Unmoved c) (sym s.tape) (close_unmoved b n (w.tree p) (strip c p) (Unmoved c u.tape) (d q r f g h))

  back_unmoved : (w : World O) (p : Place) (h : Height) (a : Answer) (u : World O) → Step w p (Back h a) u → Unmoved c u.tape → Unmoved c w.tape
  back_unmoved w p h a u s t = subst (Unmoved c) (sym s.tape) (by (strip c p))
    where
      by : (o : Option Place) → unmoved_by {O = O} o (Back h a) (Unmoved c u.tape)
      by None = t
      by (Some q) = t

  -- the end of an entry: it leaves c, or what comes after it is asked for
  done_demand : (w : World O) (t : Place) (h : Height) (r : Reply) (u : World O) → Step w t (Done h r) u → ((q b : Place) → strip c t ≡ Some q → rise_to h q ≡ Some b → ends_in q r ≡ true → Unmoved c u.tape) → Demand t (Some r) w
  done_demand w t h r u s f q y e g k = subst (Unmoved c) (sym s.tape) (subst (λ o. unmoved_by {O = O} o (Done h r) (Unmoved c u.tape)) (sym e) (by (rise_to h q) refl))
    where
      by : (o : Option Place) → rise_to h q ≡ o → freed o (Unmoved c u.tape)
      by None l = tt
      by (Some b) l = f q b e l (ap (ends_in q) (Some-inj r g) ∙ k)

  no_demand : (p : Place) (x : Completion) (v : World O) → Demand p (Some (Completed x)) v
  no_demand p x v q r e g k = bad (ap (ends_in q) (Some-inj (Completed x) g) ∙ k)

  exit_demand : (p : Place) (n : ℤ) (v : World O) → Demand p (Some (Exit n)) v
  exit_demand p n v q r e g k = bad (ap (ends_in q) (Some-inj (Exit n) g) ∙ k)

  none_demand : (p : Place) (v : World O) → Demand p None v
  none_demand p v q r e g k = absurd (not_both refl g)

-- a stop that names c or one above it does so for the caller too
carried_stop : (q q2 b down : Place) (h : ℕ) (p : Place) (n : ℕ) (m : Kind) → length q ≡ length b + h → length q2 ≡ length b + length down → nat_le (length q2) n ≡ true → ends_in q (carried_by (Stop n m) (Some h) p down) ≡ true
carried_stop q q2 b down h p n m e f g =
    let l : length q2 ≤ n = grind (arith, nat_tests) in
    let x : nat_lt (n + together (falls h p) down) (length down) ≡ false = grind (arith, nat_tests) in
    ap (λ y. ends_in q (lessened y (n + h - length down) m)) x ∙ grind (arith, nat_tests)

carried_by_ends : (q q2 b down : Place) (h : ℕ) (p : Place) (r : Reply) → length q ≡ length b + h → length q2 ≡ length b + length down → ends_in q2 r ≡ true → ends_in q (carried_by r (Some h) p down) ≡ true
carried_by_ends q q2 b down h p (Completed x) e f g = bad g
carried_by_ends q q2 b down h p (Exit x) e f g = bad g
carried_by_ends q q2 b down h p (Cut x) e f g = refl
carried_by_ends q q2 b down h p (Stop n m) e f g = carried_stop q q2 b down h p n m e f g

ended_ends : (q : Place) (g : Option ℕ) (r : Reply) → ends_in q r ≡ true → ends_in q (ended g r) ≡ true
ended_ends q g (Completed x) e = bad e
ended_ends q g (Exit x) e = bad e
ended_ends q None (Cut x) e = refl
ended_ends q (Some g) (Cut x) e = refl
ended_ends q None (Stop n m) e = e
ended_ends q (Some g) (Stop n m) e = e

carried_ends : (q q2 b down : Place) (y : Option ℕ) (h : ℕ) (p : Place) (r : Reply) → length q ≡ length b + h → length q2 ≡ length b + length down → ends_in q2 r ≡ true → ends_in q (carried y (Some h) p down r) ≡ true
carried_ends q q2 b down y h p r e f g = ended_ends q y (carried_by r (Some h) p down) (carried_by_ends q q2 b down h p r e f g)

caller_ends : (y : Option ℕ) (c p a : Place) (h : Height) (down q2 b : Place) (r : Reply) → rise_to h p ≡ Some a → strip c (a ++ down) ≡ Some q2 → rise_to (Some (length down)) q2 ≡ Some b → ends_in q2 r ≡ true →
    (q : Place) × (strip c p ≡ Some q) × (ends_in q (carried y h p down r) ≡ true)
caller_ends y c p a None down q2 b r e f g k = absurd (not_both refl e)
caller_ends y c p a (Some h) down q2 b r e f g k = here (strip c p) refl
  where
    top : a ≡ c ++ b
    top = Some-inj a (sym (rise_back a down) ∙ ap (rise (length down)) (strip-sound c (a ++ down) q2 f) ∙ rise_to_within c q2 (Some (length down)) b g)

    in_c : strip c a ≡ Some b
    in_c = ap (strip c) top ∙ strip_own c b

    risen : (q : Place) → strip c p ≡ Some q → (o : Option Place) → rise_to (Some h) q ≡ o → (q : Place) × (strip c p ≡ Some q) × (ends_in q (carried y (Some h) p down r) ≡ true)
    risen q j None l = absurd (not_both (rise_to_out c q (Some h) a l (subst (λ z. rise_to (Some h) z ≡ Some a) (strip-sound c p q j) e)) in_c)
    risen q j (Some b2) l =
        let same : c ++ b2 ≡ c ++ b = Some-inj (c ++ b2) (sym (rise_to_within c q (Some h) b2 l) ∙ subst (λ z. rise_to (Some h) z ≡ Some a) (strip-sound c p q j) e ∙ ap Some top) in
        let b_same : b2 ≡ b = Some-inj b2 (sym (strip_own c b2) ∙ ap (strip c) same ∙ strip_own c b) in
        let m1 : length q ≡ length b2 + h = rise-measure h q b2 l in
        let m2 : length q2 ≡ length b + length down = rise-measure (length down) q2 b g in
        (q, j, carried_ends q q2 b down y h p r (m1 ∙ ap (λ z. length z + h) b_same) m2 k)

    here : (o : Option Place) → strip c p ≡ o → (q : Place) × (strip c p ≡ Some q) × (ends_in q (carried y (Some h) p down r) ≡ true)
    here None j = absurd (not_both (rise_to_elsewhere c p (Some h) a j e) in_c)
    here (Some q) j = risen q j (rise_to (Some h) q) refl

module _ {O I : Type 0} (c : Place) (prog : Table O I) where
  -- what a call's entry is asked for, where its caller goes on, or ends so
  call_demand : (p a t : Place) (h : Height) (down : Path) (u : World O) (left told : World O) (r : Reply) → rise_to h p ≡ Some a → reached u.tree a down ≡ Some t → Step left t (Done (Some (length down)) r) told →
      ((q : Place) → strip c p ≡ Some q → ends_in q (carried (gone (depth_of (u.tree p)) told.tree p) h p down r) ≡ true → Unmoved c told.tape) → Demand c t (Some r) left
  call_demand p a t h down u left told r e f s g =
      done_demand c left t (Some (length down)) r told s (λ q2 b j k l.
      let m : (q : Place) × (strip c p ≡ Some q) × (ends_in q (carried (gone (depth_of (u.tree p)) told.tree p) h p down r) ≡ true) = caller_ends (gone (depth_of (u.tree p)) told.tree p) c p a h down q2 b r e (subst (λ z. strip c z ≡ Some q2) (reached_at (u.tree (a ++ down)) t (a ++ down) f) j) k l in
      g m.0 m.1 m.2)

  exits_obey : (w : World O) (p : Place) (s : Wait) (n : ℤ) (ms : List (Move O)) (v : World O) (e : Ending) → Exits w p s n ms v e → Obeys c v.tape → Obeys c w.tape
  exits_obey w p s n ms v e a h = by ms a
    where
      halt : Halts w v e → Obeys c w.tape
      halt x = subst (λ u. Obeys c u.tape) x.same h

      back : (l : Bool) → Exiting w p s n l v e → Obeys c w.tape
      back false x = halt x
      back true x = obey_quiet c w p (Back (height_of s) (Replied (Exit n))) v x.0 (λ q. refl) h

      by : (ms : List (Move O)) → Exits w p s n ms v e → Obeys c w.tape
      by [] x = halt x
      by (Come y ∷ ms) x = back (ends_call s n y) x
      by (Born o l ∷ ms) x = halt x
      by (Fall ∷ ms) x = halt x
      by (Enter u i ∷ ms) x = halt x

  back_obeys : (w : World O) (p : Place) (h : Height) (r : Reply) (u : World O) → Step w p (Back h (Replied r)) u → Demand c p (Some r) u → Obeys c u.tape → Obeys c w.tape
  back_obeys w p h r u s d o = obey c w p (Back h (Replied r)) u s (raised_as c p (Back h (Replied r)) r u (λ q. refl) d) o

  stopping_derived : {w : World O} {p : Place} {x : Prog O I} {v : World O} {e : Ending} → Derives prog w p x v e → Demand c p e v → Obeys c v.tape → Obeys c w.tape
  stopping_derived (completed w p y) d h = h
  stopping_derived (exited w p n) d h = h
  stopping_derived (acted w p y k x u v e g on s a) d h = act_on c w p y x u g on s (stopping_derived a d h)
  stopping_derived (refused w p y k x r u g off s) d h = off_act c w p x.0 x.1 x.2 r u (off_here c y w.tree p w.grants x r g off) (decide_next y w.tree p w.grants x g) off s d h
  stopping_derived (unheard w p y k g t) d h = h
  stopping_derived (went w p i k u y v e a b) d h = stopping_derived a (no_demand c p y u) (stopping_derived b d h)
  stopping_derived (passed w p i k u r q a) d h = stopping_derived a d h
  stopping_derived (halted w p i k u a) d h = stopping_derived a d h
  stopping_derived (wrapped w p b i k x inner left closed v y e g on s a t z) d h =
      obey_quiet c w (spot p x.0) x.1 inner s (on_quiet x.1 x.2 (subst IsOn (sym on) tt) (opens_next b w.tree p w.grants x g))
      (stopping_derived a (no_demand c p y left) (obey_quiet c left p (closes b (inner.tree p) (left.tree p)) closed t (close_quiet c b (inner.tree p) (left.tree p)) (stopping_derived z d h)))
  stopping_derived (wrapped_passed w p b i k x inner left closed r q g on s a t) d h =
      obey_quiet c w (spot p x.0) x.1 inner s (on_quiet x.1 x.2 (subst IsOn (sym on) tt) (opens_next b w.tree p w.grants x g))
      (stopping_derived a (close_demand c (inner.tree p) left p b closed (Some r) t d) (obey_quiet c left p (closes b (inner.tree p) (left.tree p)) closed t (close_quiet c b (inner.tree p) (left.tree p)) h))
  stopping_derived (wrapped_halted w p b i k x inner left g on s a) d h =
      obey_quiet c w (spot p x.0) x.1 inner s (on_quiet x.1 x.2 (subst IsOn (sym on) tt) (opens_next b w.tree p w.grants x g)) (stopping_derived a d h)
  stopping_derived (too_deep w p b i k x u v e g deep s a) d h =
      obey_quiet c w (spot p x.0) x.1 u s (on_quiet x.1 x.2 (subst IsOn (sym deep) tt) (opens_next b w.tree p w.grants x g)) (stopping_derived a d h)
  stopping_derived (shut w p b i k x r u g off s) d h = off_act c w p x.0 x.1 x.2 r u (opens_here b w.tree p w.grants x g) (opens_next b w.tree p w.grants x g) off s d h
  stopping_derived (unheard_inside w p b i k g t) d h = h
  stopping_derived (called w p h down i lost k a t out inner left told back v r y e g s1 j s2 x s3 so s4 b) d f =
      obey_quiet c w p _ out s1 (λ q. refl) (obey_quiet c out t _ inner s2 (λ q. refl)
      (stopping_derived x (call_demand p a t h down out left told r g j s3 (λ q l m. bad (ap (ends_in q) (sym so) ∙ m)))
      (obey_quiet c left t _ told s3 (λ q. refl) (back_obeys told p h _ back s4 (λ q z l m n. bad (ap (ends_in q) (sym so ∙ Some-inj (carried (gone (depth_of (out.tree p)) told.tree p) h p down r) m) ∙ n)) (stopping_derived b d f)))))
  stopping_derived (called_passed w p h down i lost k a t out inner left told back r g s1 j s2 x s3 q s4) d f =
      obey_quiet c w p _ out s1 (λ q. refl) (obey_quiet c out t _ inner s2 (λ q. refl)
      (stopping_derived x (call_demand p a t h down out left told r g j s3 (λ z l m. back_unmoved c told p h _ back s4 (d z _ l refl m)))
      (obey_quiet c left t _ told s3 (λ q. refl) (back_obeys told p h _ back s4 d f))))
  stopping_derived (called_halted w p h down i lost k a t out inner left g s1 j s2 x) d f = obey_quiet c w p _ out s1 (λ q. refl) (obey_quiet c out t _ inner s2 (λ q. refl) (stopping_derived x (none_demand c t left) f))
  stopping_derived (unreached w p h down i lost k a out back v e g s1 j s2 x) d f = obey_quiet c w p _ out s1 (λ q. refl) (obey_quiet c out p _ back s2 (λ q. refl) (stopping_derived x d f))
  stopping_derived (called_out w p h down i lost k u v e g s a) d f = obey_quiet c w p _ u s (λ q. refl) (stopping_derived a d f)
  stopping_derived (unanswered w p s k g m t) d h = h
  stopping_derived (unfit w p s k m ms g j l t) d h = h
  stopping_derived (answered w p s k y u v e g j t a) d h = obey_quiet c w p _ u t (λ q. refl) (stopping_derived a d h)
  stopping_derived (heard w p s k y u v e g j t a) d h = obey_quiet c w p _ u t (λ q. refl) (stopping_derived a d h)
  stopping_derived (missed w p s k u v e g j t a) d h = obey_quiet c w p _ u t (λ q. refl) (stopping_derived a d h)
  stopping_derived (answered_passed w p s k r u q g j t) d h = back_obeys w p (height_of s) r u t d h
  stopping_derived (entered w p s k t i inner left told v r e g here s1 a s2 n b) d h =
      obey_quiet c w t _ inner s1 (λ q. refl) (stopping_derived a (done_demand c left t None r told s2 (λ q z l m n2. absurd (not_both refl m))) (obey_quiet c left t _ told s2 (λ q. refl) (stopping_derived b d h)))
  stopping_derived (entered_halted w p s k t i inner left g here s1 a) d h = obey_quiet c w t _ inner s1 (λ q. refl) (stopping_derived a (none_demand c t left) h)
  stopping_derived (entered_exiting w p s k t i inner left told v n e g here s1 a s2 b) d h =
      obey_quiet c w t _ inner s1 (λ q. refl) (stopping_derived a (exit_demand c t n left) (obey_quiet c left t _ told s2 (λ q. refl) (exits_obey told p s n told.moves v e b h)))
  stopping_derived (born w p s k o b u v e g t a) d h = obey_quiet c w [] _ u t (λ q. refl) (stopping_derived a d h)
  stopping_derived (unfound w p s k t i u v e g here b a) d h = obey_quiet c w [] _ u b (λ q. refl) (stopping_derived a d h)
  stopping_derived (fallen w p s k u v e g t a) d h = obey_quiet c w [] _ u t (λ q. refl) (stopping_derived a d h)

module _ {O I : Type 0} where
  pub stopping : Stopping O I
  stopping prog c p w x v e a f =
      let h : Obeys c v.tape = subst (Obeys c) (sym f) tt in
      let d : Demand c p e v = λ q r j k l. subst (Unmoved c) (sym f) tt in
      stopping_derived c prog (runs_derived prog w p x v e a) d h
