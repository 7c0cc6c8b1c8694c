-- The rules say what `Runs` says.
use Rattle.tcl_core.proofs.TreeLaws.{reached_stands}
use Rattle.std.proofs.Common.{◌≡◌, ℕ, zero, suc, Bool, true, false, List, [], ◌∷◌, Option, Some, None, refl, sym, ◌∙◌, ap, subst}
use Rattle.tcl_core.specs.Paths.{Path, Place, Height, rise_to}
use Rattle.tcl_core.specs.Endings.{Completion, Reply, IsQuit}
use Rattle.tcl_core.specs.Endings.Reply.{Completed, Stop, Exit, Cut}
use Rattle.tcl_core.specs.Entries.{Entry, Answer, Said}
use Rattle.tcl_core.specs.Entries.Answer.{Replied, Heard, Nobody}
use Rattle.tcl_core.specs.Trees.{Tree, Move, at, depth_of, Node}
use Rattle.tcl_core.specs.Trees.What.{Out}
use Rattle.tcl_core.specs.Trees.Move.{Born, Fall, Enter, Come}
use Rattle.tcl_core.specs.Programs.{Deed, spot, Act, Wrap, Wait, Next, Prog, Table, decide, opens}
use Rattle.tcl_core.specs.Programs.Next.{On, TooDeep, Off}
use Rattle.tcl_core.specs.Programs.Prog.{done, exit, act, go, inside, call, wait}
use Rattle.tcl_core.specs.Runs.{World, Step, Ending, Run, Halts, Then, Closes, Acted, Acts, Opened, Opens, Hears, Answered, Visits, Reaches, Calls, Stays, Moves, Fitting, Waits, Unrolled, RunsIn, Runs, carried, reached, fits, height_of, gone, Enters}
use Rattle.tcl_core.specs.Rules.{Derives, IsOn, IsNoExit}
use Rattle.tcl_core.specs.Rules.Derives.{completed, exited, acted, refused, unheard, went, passed, halted, wrapped, wrapped_passed, wrapped_halted, too_deep, shut, unheard_inside, called, called_passed, called_halted, unreached, called_out, unanswered, unfit, answered, heard, missed, answered_passed, entered, entered_halted, entered_exiting, born, fallen, unfound}
use Rattle.tcl_core.proofs.Folding.{roll, Implies, unrolled_map}
use Rattle.tcl_core.proofs.Subtrees.{wait_born, wait_fall, wait_halt, wait_answer, wait_enter, quits, hears_quit, wait_unfound}

module _ {O I : Type 0} (prog : Table O I) where
  calls_at : (w : World O) (p : Place) (h : Height) (down : Path) (i : Entry) (lost : Completion) (k : Said → Prog O I) (u : World O) (a : Option Place) (v : World O) (e : Ending) → rise_to h p ≡ a → Step w p (Out h down i) u → Calls prog (Runs prog) u p h down i lost k a v e → Runs prog w p (call h down i lost k) v e
  calls_at w p h down i lost k u a v e f s c = roll prog w p (call h down i lost k) v e (u, s, subst (λ z. Calls prog (Runs prog) u p h down i lost k z v e) (sym f) c)

  reaches_at : (w : World O) (p : Place) (h : Height) (down : Path) (i : Entry) (lost : Completion) (k : Said → Prog O I) (u : World O) (a : Place) (t : Option Place) (v : World O) (e : Ending) → rise_to h p ≡ Some a → reached u.tree a down ≡ t → Step w p (Out h down i) u → Reaches prog (Runs prog) u p h down i lost k t v e → Runs prog w p (call h down i lost k) v e
  reaches_at w p h down i lost k u a t v e f g s c = calls_at w p h down i lost k u (Some a) v e f s (subst (λ z. Reaches prog (Runs prog) u p h down i lost k z v e) (sym g) c)

  acts_at : (w : World O) (p : Place) (d : Act O) (k : Tree O → Prog O I) (x : Option (Deed O)) (v : World O) (e : Ending) → decide d w.tree p w.grants ≡ x → Acts (Runs prog) w p x k v e → Runs prog w p (act d k) v e
  acts_at w p d k x v e g a = roll prog w p (act d k) v e (subst (λ o. Acts (Runs prog) w p o k v e) (sym g) a)

  opens_at : (w : World O) (p : Place) (b : Wrap O) (i : I) (k : Completion → Prog O I) (x : Option (Deed O)) (v : World O) (e : Ending) → opens b w.tree p w.grants ≡ x → Opens prog (Runs prog) w p x b i k v e → Runs prog w p (inside b i k) v e
  opens_at w p b i k x v e g a = roll prog w p (inside b i k) v e (subst (λ o. Opens prog (Runs prog) w p o b i k v e) (sym g) a)

  opened_at : (w : World O) (p : Place) (b : Wrap O) (i : I) (k : Completion → Prog O I) (x : Deed O) (y : Next) (u : World O) (v : World O) (e : Ending) → opens b w.tree p w.grants ≡ Some x → x.2 ≡ y → Step w (spot p x.0) x.1 u → Opened prog (Runs prog) u p b i k y v e → Runs prog w p (inside b i k) v e
  opened_at w p b i k x y u v e g h s a = opens_at w p b i k (Some x) v e g (u, s, subst (λ z. Opened prog (Runs prog) u p b i k z v e) (sym h) a)

  on_acted : (w u : World O) (p : Place) (k : Tree O → Prog O I) (x : Next) (v : World O) (e : Ending) → IsOn x → Runs prog u p (k (at w.tree p)) v e → Acted (Runs prog) w u p k x v e
  on_acted w u p k On v e f a = a
  on_acted w u p k TooDeep v e f a = a
  on_acted w u p k (Off r) v e f a = absurd f

  fitted_at : (w : World O) (p : Place) (s : Wait) (k : Said → Prog O I) (m : Move O) (ms : List (Move O)) (b : Bool) (v : World O) (e : Ending) → rise_to (height_of s) p ≡ None → w.moves ≡ m ∷ ms → fits w.tree p s m ≡ b → Fitting prog (Runs prog) w p s k b m v e → Runs prog w p (wait s k) v e
  fitted_at w p s k m ms b v e f g h a =
      roll prog w p (wait s k) v e (f, subst (λ l. Waits prog (Runs prog) w p s k l v e) (sym g) (subst (λ c. Fitting prog (Runs prog) w p s k c m v e) (sym h) a))

  stays_on : (w : World O) (p : Place) (s : Wait) (k : Said → Prog O I) (r : Reply) (v : World O) (e : Ending) → IsNoExit r → Runs prog w p (wait s k) v e → Stays (Runs prog) w p s k (Some r) v e
  stays_on w p s k (Completed c) v e f a = a
  stays_on w p s k (Stop n m) v e f a = a
  stays_on w p s k (Cut c) v e f a = a
  stays_on w p s k (Exit n) v e f a = absurd f

  pub derived_runs : {w : World O} {p : Place} {x : Prog O I} {v : World O} {e : Ending} → Derives prog w p x v e → Runs prog w p x v e
  derived_runs (completed w p c) = roll prog w p (done c) w (Some (Completed c)) (refl, refl)
  derived_runs (exited w p n) = roll prog w p (exit n) w (Some (Exit n)) (refl, refl)
  derived_runs (acted w p d k x u v e g on s a) = acts_at w p d k (Some x) v e g (u, s, on_acted w u p k x.2 v e on (derived_runs a))
  derived_runs (refused w p d k x r u g off s) = acts_at w p d k (Some x) u (Some r) g (u, s, subst (λ y. Acted (Runs prog) w u p k y u (Some r)) (sym off) (refl, refl))
  derived_runs (unheard w p d k g t) = acts_at w p d k None w None g (record { tape = t; same = refl; ending = refl })
  derived_runs (went w p i k u c v e a b) = roll prog w p (go i k) v e (u, Some (Completed c), derived_runs a, derived_runs b)
  derived_runs (passed w p i k u r q a) = roll prog w p (go i k) u (Some r) (u, Some r, derived_runs a, quits prog u p k r u (Some r) q refl refl)
  derived_runs (halted w p i k u a) = roll prog w p (go i k) u None (u, None, derived_runs a, (refl, refl))
  derived_runs (wrapped w p b i k x inner left closed v c e g on s a t d) =
      opened_at w p b i k x On inner v e g on s (left, Some (Completed c), derived_runs a, (closed, t, derived_runs d))
  derived_runs (wrapped_passed w p b i k x inner left closed r q g on s a t) =
      opened_at w p b i k x On inner closed (Some r) g on s (left, Some r, derived_runs a, (closed, t, quits prog closed p k r closed (Some r) q refl refl))
  derived_runs (wrapped_halted w p b i k x inner left g on s a) = opened_at w p b i k x On inner left None g on s (left, None, derived_runs a, (refl, refl))
  derived_runs (too_deep w p b i k x u v e g deep s a) = opened_at w p b i k x TooDeep u v e g deep s (derived_runs a)
  derived_runs (shut w p b i k x r u g off s) = opened_at w p b i k x (Off r) u u (Some r) g off s (refl, refl)
  derived_runs (unheard_inside w p b i k g t) = opens_at w p b i k None w None g (record { tape = t; same = refl; ending = refl })
  derived_runs (called w p h down i lost k a t out inner left told back v r c e f s1 g s2 x s3 y s4 z) =
      reaches_at w p h down i lost k out a (Some t) v e f g s1 (
        told,
        Some r,
        record { node = (reached_stands out.tree a down t g).0; stands = (reached_stands out.tree a down t g).1; entered = inner; left = left; entry = s2; run = derived_runs x; leaving = s3 },
        (back, s4, subst (λ l. Hears (Runs prog) back p k (Replied l) v e) (sym y) (derived_runs z)),
      )
  derived_runs (called_passed w p h down i lost k a t out inner left told back r f s1 g s2 x s3 q s4) =
      reaches_at w p h down i lost k out a (Some t) back (Some (carried (gone (depth_of (out.tree p)) told.tree p) h p down r)) f g s1 (
        told,
        Some r,
        record { node = (reached_stands out.tree a down t g).0; stands = (reached_stands out.tree a down t g).1; entered = inner; left = left; entry = s2; run = derived_runs x; leaving = s3 },
        (back, s4, hears_quit prog back p k (carried (gone (depth_of (out.tree p)) told.tree p) h p down r) back (Some (carried (gone (depth_of (out.tree p)) told.tree p) h p down r)) q refl refl),
      )
  derived_runs (called_halted w p h down i lost k a t out inner left f s1 g s2 x) =
      reaches_at w p h down i lost k out a (Some t) left None f g s1 (left, None, record { node = (reached_stands out.tree a down t g).0; stands = (reached_stands out.tree a down t g).1; entered = inner; left = left; entry = s2; run = derived_runs x; leaving = refl }, (refl, refl))
  derived_runs (unreached w p h down i lost k a out back v e f s1 g s2 x) = reaches_at w p h down i lost k out a None v e f g s1 (back, s2, derived_runs x)
  derived_runs (called_out w p h down i lost k u v e f s a) = calls_at w p h down i lost k u None v e f s (derived_runs a)
  derived_runs (unanswered w p s k f m t) = wait_halt prog w p s k w None f m (record { tape = t; same = refl; ending = refl })
  derived_runs (unfit w p s k m ms f g h t) = fitted_at w p s k m ms false w None f g h (record { tape = t; same = refl; ending = refl })
  derived_runs (answered w p s k c u v e f g t a) = wait_answer prog w p s k (Replied (Completed c)) v e f g (u, t, derived_runs a)
  derived_runs (heard w p s k y u v e f g t a) = wait_answer prog w p s k (Heard y) v e f g (u, t, derived_runs a)
  derived_runs (missed w p s k u v e f g t a) = wait_answer prog w p s k Nobody v e f g (u, t, derived_runs a)
  derived_runs (answered_passed w p s k r u q f g t) = wait_answer prog w p s k (Replied r) u (Some r) f g (u, t, hears_quit prog u p k r u (Some r) q refl refl)
  derived_runs (entered w p s k t i inner left told v r e f here s1 a s2 n b) =
      wait_enter prog w p s k t i told (Some r) v e f (record { node = _; stands = here; entered = inner; left = left; entry = s1; run = derived_runs a; leaving = s2 }) (stays_on told p s k r v e n (derived_runs b))
  derived_runs (entered_halted w p s k t i inner left f here s1 a) =
      wait_enter prog w p s k t i left None left None f (record { node = _; stands = here; entered = inner; left = left; entry = s1; run = derived_runs a; leaving = refl }) (refl, refl)
  derived_runs (entered_exiting w p s k t i inner left told v n e f here s1 a s2 b) =
      wait_enter prog w p s k t i told (Some (Exit n)) v e f (record { node = _; stands = here; entered = inner; left = left; entry = s1; run = derived_runs a; leaving = s2 }) b
  derived_runs (born w p s k o b u v e f t a) = wait_born prog w p s k o b u v e f t (derived_runs a)
  derived_runs (fallen w p s k u v e f t a) = wait_fall prog w p s k u v e f t (derived_runs a)
  derived_runs (unfound w p s k t i u v e f here b a) = wait_unfound prog w p s k t i u v e f here b (derived_runs a)

  -- the other way
  abbrev pub Ruled : Run O I
  Ruled w p x v e = Derives prog w p x v e

  halted_at : (w v : World O) (p : Place) (x : Prog O I) (e : Ending) → Halts w v e → Derives prog w p x w None → Derives prog w p x v e
  halted_at w v p x e a b = subst (λ o. Derives prog w p x v o) (sym a.ending) (subst (λ u. Derives prog w p x u None) (sym a.same) b)

  ended_at : (w u v : World O) (p : Place) (x : Prog O I) (r e : Ending) → v ≡ u → e ≡ r → Derives prog w p x u r → Derives prog w p x v e
  ended_at w u v p x r e a b d = subst (λ o. Derives prog w p x v o) (sym b) (subst (λ y. Derives prog w p x y r) (sym a) d)

  pub act_rule : (w : World O) (p : Place) (d : Act O) (k : Tree O → Prog O I) (x : Option (Deed O)) (v : World O) (e : Ending) → decide d w.tree p w.grants ≡ x → Acts Ruled w p x k v e → Derives prog w p (act d k) v e
  act_rule w p d k None v e g a = halted_at w v p (act d k) e a (unheard w p d k g a.tape)
  act_rule w p d k (Some x) v e g (u, s, a) = by x.2 refl a
    where
      by : (y : Next) → x.2 ≡ y → Acted Ruled w u p k y v e → Derives prog w p (act d k) v e
      by (Off r) f b = ended_at w u v p (act d k) (Some r) e b.0 b.1 (refused w p d k x r u g f s)
      by On f b = acted w p d k x u v e g (subst IsOn (sym f) tt) s b
      by TooDeep f b = acted w p d k x u v e g (subst IsOn (sym f) tt) s b

  pub go_rule : (w : World O) (p : Place) (i : I) (k : Completion → Prog O I) (u : World O) (o : Ending) (v : World O) (e : Ending) → Derives prog w p (prog.program i) u o → Then Ruled u p k o v e → Derives prog w p (go i k) v e
  go_rule w p i k u None v e a b = ended_at w u v p (go i k) None e b.0 b.1 (halted w p i k u a)
  go_rule w p i k u (Some (Completed c)) v e a b = went w p i k u c v e a b
  go_rule w p i k u (Some (Stop n m)) v e a b = ended_at w u v p (go i k) (Some (Stop n m)) e b.0 b.1 (passed w p i k u (Stop n m) tt a)
  go_rule w p i k u (Some (Exit n)) v e a b = ended_at w u v p (go i k) (Some (Exit n)) e b.0 b.1 (passed w p i k u (Exit n) tt a)
  go_rule w p i k u (Some (Cut c)) v e a b = ended_at w u v p (go i k) (Some (Cut c)) e b.0 b.1 (passed w p i k u (Cut c) tt a)

  close_rule : (w : World O) (p : Place) (b : Wrap O) (i : I) (k : Completion → Prog O I) (x : Deed O) (inner left : World O) (o : Ending) (v : World O) (e : Ending) → opens b w.tree p w.grants ≡ Some x → x.2 ≡ On → Step w (spot p x.0) x.1 inner →
      Derives prog inner p (prog.program i) left o → Closes Ruled (inner.tree p) left p b k o v e → Derives prog w p (inside b i k) v e
  close_rule w p b i k x inner left None v e g h s a c = ended_at w left v p (inside b i k) None e c.0 c.1 (wrapped_halted w p b i k x inner left g h s a)
  close_rule w p b i k x inner left (Some (Completed y)) v e g h s a (u, t, c) = wrapped w p b i k x inner left u v y e g h s a t c
  close_rule w p b i k x inner left (Some (Stop n m)) v e g h s a (u, t, c) = ended_at w u v p (inside b i k) (Some (Stop n m)) e c.0 c.1 (wrapped_passed w p b i k x inner left u (Stop n m) tt g h s a t)
  close_rule w p b i k x inner left (Some (Exit n)) v e g h s a (u, t, c) = ended_at w u v p (inside b i k) (Some (Exit n)) e c.0 c.1 (wrapped_passed w p b i k x inner left u (Exit n) tt g h s a t)
  close_rule w p b i k x inner left (Some (Cut y)) v e g h s a (u, t, c) = ended_at w u v p (inside b i k) (Some (Cut y)) e c.0 c.1 (wrapped_passed w p b i k x inner left u (Cut y) tt g h s a t)

  pub open_rule : (w : World O) (p : Place) (b : Wrap O) (i : I) (k : Completion → Prog O I) (x : Option (Deed O)) (v : World O) (e : Ending) → opens b w.tree p w.grants ≡ x → Opens prog Ruled w p x b i k v e → Derives prog w p (inside b i k) v e
  open_rule w p b i k None v e g a = halted_at w v p (inside b i k) e a (unheard_inside w p b i k g a.tape)
  open_rule w p b i k (Some x) v e g (u, s, a) = by x.2 refl a
    where
      by : (y : Next) → x.2 ≡ y → Opened prog Ruled u p b i k y v e → Derives prog w p (inside b i k) v e
      by (Off r) f c = ended_at w u v p (inside b i k) (Some r) e c.0 c.1 (shut w p b i k x r u g f s)
      by TooDeep f c = too_deep w p b i k x u v e g f s c
      by On f (left, o, c, d) = close_rule w p b i k x u left o v e g f s c d

  pub reach_rule : (w : World O) (p : Place) (h : Height) (down : Path) (i : Entry) (lost : Completion) (k : Said → Prog O I) (u : World O) (a : Place) (t : Option Place) (v : World O) (e : Ending) → rise_to h p ≡ Some a → reached u.tree a down ≡ t → Step w p (Out h down i) u → Reaches prog Ruled u p h down i lost k t v e → Derives prog w p (call h down i lost k) v e
  reach_rule w p h down i lost k u a None v e f g s (y, s2, c) = unreached w p h down i lost k a u y v e f s g s2 c
  reach_rule w p h down i lost k u a (Some t) v e f g s (y, None, c, d) =
      ended_at w y v p (call h down i lost k) None e d.0 d.1 (subst (λ z. Derives prog w p (call h down i lost k) z None) (sym c.leaving) (called_halted w p h down i lost k a t u c.entered c.left f s g c.entry c.run))
  reach_rule w p h down i lost k u a (Some t) v e f g s (y, Some r, c, (z, s4, d)) = by (carried (gone (depth_of (u.tree p)) y.tree p) h p down r) refl d
    where
      quit : (l : Reply) → IsQuit l → carried (gone (depth_of (u.tree p)) y.tree p) h p down r ≡ l → v ≡ z → e ≡ Some l → Derives prog w p (call h down i lost k) v e
      quit l q j d0 d1 = ended_at w z v p (call h down i lost k) (Some (carried (gone (depth_of (u.tree p)) y.tree p) h p down r)) e d0 (d1 ∙ ap Some (sym j))
          (called_passed w p h down i lost k a t u c.entered c.left y z r f s g c.entry c.run c.leaving (subst IsQuit (sym j) q) s4)

      by : (l : Reply) → carried (gone (depth_of (u.tree p)) y.tree p) h p down r ≡ l → Hears Ruled z p k (Replied l) v e → Derives prog w p (call h down i lost k) v e
      by (Completed x) j b = called w p h down i lost k a t u c.entered c.left y z v r x e f s g c.entry c.run c.leaving j s4 b
      by (Stop n m) j b = quit (Stop n m) tt j b.0 b.1
      by (Exit n) j b = quit (Exit n) tt j b.0 b.1
      by (Cut x) j b = quit (Cut x) tt j b.0 b.1

  pub call_rule : (w : World O) (p : Place) (h : Height) (down : Path) (i : Entry) (lost : Completion) (k : Said → Prog O I) (u : World O) (a : Option Place) (v : World O) (e : Ending) → rise_to h p ≡ a → Step w p (Out h down i) u → Calls prog Ruled u p h down i lost k a v e → Derives prog w p (call h down i lost k) v e
  call_rule w p h down i lost k u None v e f s c = called_out w p h down i lost k u v e f s c
  call_rule w p h down i lost k u (Some a) v e f s c = reach_rule w p h down i lost k u a (reached u.tree a down) v e f refl s c

  pub answer_rule : (w : World O) (p : Place) (s : Wait) (k : Said → Prog O I) (a : Answer) (v : World O) (e : Ending) → rise_to (height_of s) p ≡ None → fits w.tree p s (Come a) ≡ true → Answered Ruled w p (height_of s) k a v e → Derives prog w p (wait s k) v e
  answer_rule w p s k (Heard y) v e f g (u, t, b) = heard w p s k y u v e f g t b
  answer_rule w p s k Nobody v e f g (u, t, b) = missed w p s k u v e f g t b
  answer_rule w p s k (Replied (Completed c)) v e f g (u, t, b) = answered w p s k c u v e f g t b
  answer_rule w p s k (Replied (Stop n m)) v e f g (u, t, b) = ended_at w u v p (wait s k) (Some (Stop n m)) e b.0 b.1 (answered_passed w p s k (Stop n m) u tt f g t)
  answer_rule w p s k (Replied (Exit n)) v e f g (u, t, b) = ended_at w u v p (wait s k) (Some (Exit n)) e b.0 b.1 (answered_passed w p s k (Exit n) u tt f g t)
  answer_rule w p s k (Replied (Cut c)) v e f g (u, t, b) = ended_at w u v p (wait s k) (Some (Cut c)) e b.0 b.1 (answered_passed w p s k (Cut c) u tt f g t)

  pub enter_rule : (w : World O) (p : Place) (s : Wait) (k : Said → Prog O I) (t : Path) (i : Entry) (u : World O) (o : Ending) (v : World O) (e : Ending) → rise_to (height_of s) p ≡ None → Visits prog Ruled w None t i u o → Stays Ruled u p s k o v e → Derives prog w p (wait s k) v e
  enter_rule w p s k t i u None v e f c b =
      ended_at w u v p (wait s k) None e b.0 b.1 (subst (λ z. Derives prog w p (wait s k) z None) (sym c.leaving) (entered_halted w p s k t i c.entered c.left f c.stands c.entry c.run))
  enter_rule w p s k t i u (Some (Exit n)) v e f c b = entered_exiting w p s k t i c.entered c.left u v n e f c.stands c.entry c.run c.leaving b
  enter_rule w p s k t i u (Some (Completed x)) v e f c b = entered w p s k t i c.entered c.left u v (Completed x) e f c.stands c.entry c.run c.leaving tt b
  enter_rule w p s k t i u (Some (Stop n m)) v e f c b = entered w p s k t i c.entered c.left u v (Stop n m) e f c.stands c.entry c.run c.leaving tt b
  enter_rule w p s k t i u (Some (Cut x)) v e f c b = entered w p s k t i c.entered c.left u v (Cut x) e f c.stands c.entry c.run c.leaving tt b

  enters_rule : (w : World O) (p : Place) (s : Wait) (k : Said → Prog O I) (t : Path) (i : Entry) (n : Option (Node O)) (v : World O) (e : Ending) → rise_to (height_of s) p ≡ None → w.tree t ≡ n → Enters prog Ruled w p s k t i n v e → Derives prog w p (wait s k) v e
  enters_rule w p s k t i None v e f g (u, a, b) = unfound w p s k t i u v e f g a b
  enters_rule w p s k t i (Some n) v e f g (u, o, a, b) = enter_rule w p s k t i u o v e f a b

  move_rule : (w : World O) (p : Place) (s : Wait) (k : Said → Prog O I) (m : Move O) (v : World O) (e : Ending) → rise_to (height_of s) p ≡ None → fits w.tree p s m ≡ true → Moves prog Ruled w p s k m v e → Derives prog w p (wait s k) v e
  move_rule w p s k (Come a) v e f g x = answer_rule w p s k a v e f g x
  move_rule w p s k (Born o b) v e f g (u, t, a) = born w p s k o b u v e f t a
  move_rule w p s k Fall v e f g (u, t, a) = fallen w p s k u v e f t a
  move_rule w p s k (Enter t i) v e f g a = enters_rule w p s k t i (w.tree t) v e f refl a

  fitting_rule : (w : World O) (p : Place) (s : Wait) (k : Said → Prog O I) (m : Move O) (ms : List (Move O)) (l : Bool) (v : World O) (e : Ending) → rise_to (height_of s) p ≡ None → w.moves ≡ m ∷ ms → fits w.tree p s m ≡ l → Fitting prog Ruled w p s k l m v e → Derives prog w p (wait s k) v e
  fitting_rule w p s k m ms false v e f g h a = halted_at w v p (wait s k) e a (unfit w p s k m ms f g h a.tape)
  fitting_rule w p s k m ms true v e f g h a = move_rule w p s k m v e f h a

  wait_rule : (w : World O) (p : Place) (s : Wait) (k : Said → Prog O I) (ms : List (Move O)) (v : World O) (e : Ending) → rise_to (height_of s) p ≡ None → w.moves ≡ ms → Waits prog Ruled w p s k ms v e → Derives prog w p (wait s k) v e
  wait_rule w p s k [] v e f m a = halted_at w v p (wait s k) e a (unanswered w p s k f m a.tape)
  wait_rule w p s k (m ∷ ms) v e f g a = fitting_rule w p s k m ms (fits w.tree p s m) v e f g refl a

  ruled : (w : World O) (p : Place) (x : Prog O I) (v : World O) (e : Ending) → Unrolled prog Ruled w p x v e → Derives prog w p x v e
  ruled w p (done c) v e a = ended_at w w v p (done c) (Some (Completed c)) e a.0 a.1 (completed w p c)
  ruled w p (exit n) v e a = ended_at w w v p (exit n) (Some (Exit n)) e a.0 a.1 (exited w p n)
  ruled w p (act d k) v e a = act_rule w p d k (decide d w.tree p w.grants) v e refl a
  ruled w p (go i k) v e (u, o, a, b) = go_rule w p i k u o v e a b
  ruled w p (inside b i k) v e a = open_rule w p b i k (opens b w.tree p w.grants) v e refl a
  ruled w p (call h down i lost k) v e (u, s, a) = call_rule w p h down i lost k u (rise_to h p) v e refl s a
  ruled w p (wait s k) v e (f, a) = wait_rule w p s k w.moves v e f refl a

  ruled_in : (n : ℕ) → Implies (RunsIn prog n) Ruled
  ruled_in zero w p x v e a = absurd a
  ruled_in (suc n) w p x v e a = ruled w p x v e (unrolled_map (RunsIn prog n) Ruled (ruled_in n) prog w p x v e a)

  pub runs_derived : (w : World O) (p : Place) (x : Prog O I) (v : World O) (e : Ending) → Runs prog w p x v e → Derives prog w p x v e
  runs_derived w p x v e (n, a) = ruled_in n w p x v e a
