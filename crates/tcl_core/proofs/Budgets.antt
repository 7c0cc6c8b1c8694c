-- A run that is refused nothing from outside goes the same way under a budget.
use Rattle.std.proofs.Common.{sym, ◌≡◌, ℕ, zero, suc, ℤ, ◌+◌, Bool, true, false, List, [], ◌∷◌, Option, Some, None, refl, ◌∙◌, ap, subst, arith, length}
use Rattle.tcl_core.specs.Paths.{Place, rise_to}
use Rattle.tcl_core.specs.Endings.{Meter, Reply, Completed}
use Rattle.tcl_core.specs.Endings.Meter.{Count, Depth}
use Rattle.tcl_core.specs.Endings.Reply.{Exit, Cut}
use Rattle.tcl_core.specs.Endings.Cause.{Above, Over}
use Rattle.tcl_core.specs.Entries.Answer.{Replied, Nobody}
use Rattle.tcl_core.specs.Trees.{Tree, Grants, granted, denied, What, Move, paid, Grant, Event}
use Rattle.tcl_core.specs.Trees.Grant.{Allow, Deny}
use Rattle.tcl_core.specs.Trees.Grants.{Listed, Budget}
use Rattle.tcl_core.specs.Trees.What.{Charged, Refused, Nested, Made, Dropped, Out, In, Done, Back, Unfound}
use Rattle.tcl_core.specs.Trees.Move.{Born, Fall, Enter, Come}
use Rattle.tcl_core.specs.Programs.{Deed, spot, Act, Wrap, Wait, metered, blocked, is_spent, is_deep, Prog, Table, decide, opens}
use Rattle.tcl_core.specs.Programs.Next.{On, Off}
use Rattle.tcl_core.specs.Programs.Act.{Charge}
use Rattle.tcl_core.specs.Programs.Wrap.{Deeper, Framed}
use Rattle.tcl_core.specs.Runs.{World, Step, Ending, Halts, Exits, Exiting, ends_call, height_of}
use Rattle.tcl_core.specs.Rules.{Derives}
use Rattle.tcl_core.specs.Rules.Derives.{completed, exited, acted, refused, unheard, went, passed, halted, wrapped, wrapped_passed, wrapped_halted, too_deep, shut, unheard_inside, called, called_passed, called_halted, unreached, called_out, unanswered, unfit, answered, heard, missed, answered_passed, entered, entered_halted, entered_exiting, born, fallen, unfound}
use Rattle.tcl_core.specs.Views.{steps_of, IsDue}
use Rattle.tcl_core.specs.Lives.{IsUncut, Uncut}
use Rattle.tcl_core.proofs.PathLaws.{not_both, Some-inj}
use Rattle.tcl_core.proofs.MoreMoves.{none_not}
use Rattle.tcl_core.proofs.Keeping.{KeepsSteps, derived_keep, decide_due, opens_due, closes_due}
use Rattle.tcl_core.proofs.SameRuns.{granted-inj}
use Rattle.tcl_core.specs.Entries.{Heard}

denied_budget : (o : Option Place) (n : ℕ) → Budget n ≡ denied o (Budget n)
denied_budget None n = refl
denied_budget (Some a) n = refl

module _ {O : Type 0} where
  -- the same world, with a budget of the steps that are still made, and k more
  abbrev pub budgeted : ℕ → World O → World O
  budgeted k w = record { tree = w.tree; moves = w.moves; grants = Budget (steps_of w.tape + k); tape = w.tape }

  granted_budget : (p : Place) (x : What O) (n k : ℕ) → Budget (paid x n + k) ≡ granted p x (Budget (n + k))
  granted_budget p Charged n k = let e : suc n + k ≡ suc (n + k) = omega arith in ap Budget e
  granted_budget p Nested n k = refl
  granted_budget p (Refused m h) n k = denied_budget (rise_to h p) (n + k)
  granted_budget p _ n k = refl

  pub step_budget : (k : ℕ) (w : World O) (p : Place) (x : What O) (u : World O) → Step w p x u → Step (budgeted k w) p x (budgeted k u)
  step_budget k w p x u s = record {
    tape = s.tape;
    tree = s.tree;
    moves = s.moves;
    grants = ap (λ τ. Budget (steps_of τ + k)) s.tape ∙ granted_budget p x (steps_of u.tape) k;
  }

  pub fine_step : (w : World O) (p : Place) (x : What O) (u : World O) → Step w p x u → IsUncut w.tape → Uncut p x × IsUncut u.tape
  fine_step w p x u s f = subst IsUncut s.tape f

  abbrev On_budget : Meter → What O → Option ℕ → ℕ → ℕ → Deed O → Type 0
  On_budget m y b n k x = metered m y b (Budget (paid x.1 n + k)) ≡ Some x

  not_outside : {A : Type 0} (p : Place) (m : Meter) (z x : Deed O) → z.0 ≡ None → z.1 ≡ Refused m None → Some z ≡ Some x → Uncut (spot p x.0) x.1 → A
  not_outside p m z x f g e u = absurd (subst (λ l. Uncut (spot p z.0) l) g (subst (λ l. Uncut (spot p l.0) l.1) (sym (Some-inj z e)) u) refl)

  charge_budget : (p : Place) (b : Option ℕ) (gs : Grants) (x : Deed O) (n k : ℕ) → metered Count Charged b gs ≡ Some x → Uncut (spot p x.0) x.1 → On_budget Count Charged b n k x
  charge_budget p (Some j) gs x n k e u = e
  charge_budget p None (Listed []) x n k e u = absurd (not_both refl e)
  charge_budget p None (Listed (Allow ∷ gs)) x n k e u = subst (On_budget Count Charged None n k) (Some-inj (None, Charged, On) e) (let f : suc n + k ≡ suc (n + k) = omega arith in ap (λ j. metered {O = O} Count Charged None (Budget j)) f)
  charge_budget p None (Listed (Deny ∷ gs)) x n k e u = not_outside p Count (None, Refused Count None, Off (Cut Above)) x refl refl e u
  charge_budget p None (Budget zero) x n k e u = not_outside p Count (None, Refused Count None, Off (Cut Over)) x refl refl e u
  charge_budget p None (Budget (suc j)) x n k e u = subst (On_budget Count Charged None n k) (Some-inj (None, Charged, On) e) (let f : suc n + k ≡ suc (n + k) = omega arith in ap (λ j. metered {O = O} Count Charged None (Budget j)) f)

  nest_budget : (p : Place) (b : Option ℕ) (gs : Grants) (x : Deed O) (n k : ℕ) → metered Depth Nested b gs ≡ Some x → Uncut (spot p x.0) x.1 → On_budget Depth Nested b n k x
  nest_budget p (Some j) gs x n k e u = e
  nest_budget p None (Listed []) x n k e u = absurd (not_both refl e)
  nest_budget p None (Listed (Allow ∷ gs)) x n k e u = e
  nest_budget p None (Listed (Deny ∷ gs)) x n k e u = not_outside p Depth (None, Refused Depth None, Off (Cut Above)) x refl refl e u
  nest_budget p None (Budget j) x n k e u = e

  pub decide_budget : (d : Act O) (T : Tree O) (p : Place) (gs : Grants) (x : Deed O) (n k : ℕ) → decide d T p gs ≡ Some x → Uncut (spot p x.0) x.1 → decide d T p (Budget (paid x.1 n + k)) ≡ Some x
  decide_budget Charge T p gs x n k e u = charge_budget p (blocked is_spent T p) gs x n k e u
  decide_budget _ T p gs x n k e u = e

  pub opens_budget : (b : Wrap O) (T : Tree O) (p : Place) (gs : Grants) (x : Deed O) (n k : ℕ) → opens b T p gs ≡ Some x → Uncut (spot p x.0) x.1 → opens b T p (Budget (paid x.1 n + k)) ≡ Some x
  opens_budget Deeper T p gs x n k e u = nest_budget p (blocked is_deep T p) gs x n k e u
  opens_budget (Framed o back) T p gs x n k e u = e

  -- what is left is not cut off either
  pub uncut_keep : KeepsSteps {O = O} (λ w. IsUncut w.tape)
  uncut_keep w p x v due s f = (fine_step w p x v s f).1

module _ {O I : Type 0} (prog : Table O I) (k : ℕ) where
  abbrev bud : World O → World O
  bud w = budgeted k w

  decided : (w : World O) (p : Place) (d : Act O) (x : Deed O) (u : World O) → decide d w.tree p w.grants ≡ Some x → Step w (spot p x.0) x.1 u → IsUncut w.tape → decide d w.tree p (bud w).grants ≡ Some x
  decided w p d x u g s f = ap (λ τ. decide d w.tree p (Budget (steps_of τ + k))) s.tape ∙ decide_budget d w.tree p w.grants x (steps_of u.tape) k g (fine_step w (spot p x.0) x.1 u s f).0

  opened : (w : World O) (p : Place) (b : Wrap O) (x : Deed O) (u : World O) → opens b w.tree p w.grants ≡ Some x → Step w (spot p x.0) x.1 u → IsUncut w.tape → opens b w.tree p (bud w).grants ≡ Some x
  opened w p b x u g s f = ap (λ τ. opens b w.tree p (Budget (steps_of τ + k))) s.tape ∙ opens_budget b w.tree p w.grants x (steps_of u.tape) k g (fine_step w (spot p x.0) x.1 u s f).0

  after_step : (w : World O) (p : Place) (x : What O) (u : World O) → Step w p x u → IsUncut w.tape → IsUncut u.tape
  after_step w p x u s f = (fine_step w p x u s f).1

  after_run : {w : World O} {p : Place} {x : Prog O I} {v : World O} {e : Ending} → Derives prog w p x v e → IsUncut w.tape → IsUncut v.tape
  after_run a f = derived_keep (λ w. IsUncut w.tape) uncut_keep prog a f

  exits_budget : (w : World O) (p : Place) (s : Wait) (n : ℤ) (ms : List (Move O)) (v : World O) (e : Ending) (r : Reply) → e ≡ Some r → Exits w p s n ms v e → Exits (bud w) p s n ms (bud v) e
  exits_budget w p s n ms v e r f a = by ms a
    where
      halt : {A : Type 0} → Halts w v e → A
      halt x = none_not r (sym x.ending ∙ f)

      back : (l : Bool) → Exiting w p s n l v e → Exiting (bud w) p s n l (bud v) e
      back false x = halt x
      back true (x, y) = (step_budget k w p (Back (height_of s) (Replied (Exit n))) v x, y)

      by : (ms : List (Move O)) → Exits w p s n ms v e → Exits (bud w) p s n ms (bud v) e
      by [] x = halt x
      by (Come y ∷ ms) x = back (ends_call s n y) x
      by (Born o l ∷ ms) x = halt x
      by (Fall ∷ ms) x = halt x
      by (Enter u i ∷ ms) x = halt x

  abbrev st : (w : World O) (p : Place) (x : What O) (u : World O) → Step w p x u → Step (bud w) p x (bud u)
  st w p x u s = step_budget k w p x u s

  pub derived_budget : {w : World O} {p : Place} {x : Prog O I} {v : World O} {e : Ending} → Derives prog w p x v e → IsUncut w.tape → (r : Reply) → e ≡ Some r → Derives prog (bud w) p x (bud v) e
  derived_budget (completed w p c) f z q = completed (bud w) p c
  derived_budget (exited w p n) f z q = exited (bud w) p n
  derived_budget (acted w p d y x u v e g on s a) f z q = acted (bud w) p d y x (bud u) (bud v) e (decided w p d x u g s f) on (st w (spot p x.0) x.1 u s) (derived_budget a (after_step w _ x.1 u s f) z q)
  derived_budget (refused w p d y x r u g off s) f z q = refused (bud w) p d y x r (bud u) (decided w p d x u g s f) off (st w (spot p x.0) x.1 u s)
  derived_budget (unheard w p d y g t) f z q = none_not z q
  derived_budget (went w p i y u c v e a b) f z q = went (bud w) p i y (bud u) c (bud v) e (derived_budget a f _ refl) (derived_budget b (after_run a f) z q)
  derived_budget (passed w p i y u r l a) f z q = passed (bud w) p i y (bud u) r l (derived_budget a f r refl)
  derived_budget (halted w p i y u a) f z q = none_not z q
  derived_budget (wrapped w p b i y x inner left closed v c e g on s a t d) f z q =
      let f1 = after_step w _ x.1 inner s f in
      let f2 = after_run a f1 in
      wrapped (bud w) p b i y x (bud inner) (bud left) (bud closed) (bud v) c e (opened w p b x inner g s f) on (st w (spot p x.0) x.1 inner s) (derived_budget a f1 _ refl) (st left p _ closed t) (derived_budget d (after_step left p _ closed t f2) z q)
  derived_budget (wrapped_passed w p b i y x inner left closed r l g on s a t) f z q =
      wrapped_passed (bud w) p b i y x (bud inner) (bud left) (bud closed) r l (opened w p b x inner g s f) on (st w (spot p x.0) x.1 inner s) (derived_budget a (after_step w _ x.1 inner s f) r refl) (st left p _ closed t)
  derived_budget (wrapped_halted w p b i y x inner left g on s a) f z q = none_not z q
  derived_budget (too_deep w p b i y x u v e g deep s a) f z q = too_deep (bud w) p b i y x (bud u) (bud v) e (opened w p b x u g s f) deep (st w (spot p x.0) x.1 u s) (derived_budget a (after_step w _ x.1 u s f) z q)
  derived_budget (shut w p b i y x r u g off s) f z q = shut (bud w) p b i y x r (bud u) (opened w p b x u g s f) off (st w (spot p x.0) x.1 u s)
  derived_budget (unheard_inside w p b i y g t) f z q = none_not z q
  derived_budget (called w p h down i lost y a t out inner left told back v r c e g s1 j s2 x s3 so s4 b) f z q =
      let f2 = after_step out t _ inner s2 (after_step w p _ out s1 f) in
      let f4 = after_step told p _ back s4 (after_step left t _ told s3 (after_run x f2)) in
      called (bud w) p h down i lost y a t (bud out) (bud inner) (bud left) (bud told) (bud back) (bud v) r c e g (st w p _ out s1) j (st out t _ inner s2) (derived_budget x f2 r refl) (st left t _ told s3) so (st told p _ back s4) (derived_budget b f4 z q)
  derived_budget (called_passed w p h down i lost y a t out inner left told back r g s1 j s2 x s3 l s4) f z q =
      let f2 = after_step out t _ inner s2 (after_step w p _ out s1 f) in
      called_passed (bud w) p h down i lost y a t (bud out) (bud inner) (bud left) (bud told) (bud back) r g (st w p _ out s1) j (st out t _ inner s2) (derived_budget x f2 r refl) (st left t _ told s3) l (st told p _ back s4)
  derived_budget (called_halted w p h down i lost y a t out inner left g s1 j s2 x) f z q = none_not z q
  derived_budget (unreached w p h down i lost y a out back v e g s1 j s2 x) f z q =
      unreached (bud w) p h down i lost y a (bud out) (bud back) (bud v) e g (st w p _ out s1) j (st out p _ back s2) (derived_budget x (after_step out p _ back s2 (after_step w p _ out s1 f)) z q)
  derived_budget (called_out w p h down i lost y u v e g s a) f z q = called_out (bud w) p h down i lost y (bud u) (bud v) e g (st w p _ u s) (derived_budget a (after_step w p _ u s f) z q)
  derived_budget (unanswered w p s y g j t) f z q = none_not z q
  derived_budget (unfit w p s y a ms g j h t) f z q = none_not z q
  derived_budget (answered w p s y c u v e g j t a) f z q = answered (bud w) p s y c (bud u) (bud v) e g j (st w p _ u t) (derived_budget a (after_step w p _ u t f) z q)
  derived_budget (heard w p s y x u v e g j t a) f z q = heard (bud w) p s y x (bud u) (bud v) e g j (st w p _ u t) (derived_budget a (after_step w p _ u t f) z q)
  derived_budget (missed w p s y u v e g j t a) f z q = missed (bud w) p s y (bud u) (bud v) e g j (st w p _ u t) (derived_budget a (after_step w p _ u t f) z q)
  derived_budget (answered_passed w p s y r u l g j t) f z q = answered_passed (bud w) p s y r (bud u) l g j (st w p _ u t)
  derived_budget (entered w p s y t i inner left told v r e g here s1 a s2 n b) f z q =
      let f1 = after_step w t _ inner s1 f in
      entered (bud w) p s y t i (bud inner) (bud left) (bud told) (bud v) r e g here (st w t _ inner s1) (derived_budget a f1 r refl) (st left t _ told s2) n (derived_budget b (after_step left t _ told s2 (after_run a f1)) z q)
  derived_budget (entered_halted w p s y t i inner left g here s1 a) f z q = none_not z q
  derived_budget (entered_exiting w p s y t i inner left told v n e g here s1 a s2 b) f z q =
      entered_exiting (bud w) p s y t i (bud inner) (bud left) (bud told) (bud v) n e g here (st w t _ inner s1) (derived_budget a (after_step w t _ inner s1 f) (Exit n) refl) (st left t _ told s2) (exits_budget told p s n told.moves v e z q b)
  derived_budget (born w p s y o b u v e g t a) f z q = born (bud w) p s y o b (bud u) (bud v) e g (st w [] _ u t) (derived_budget a (after_step w [] _ u t f) z q)
  derived_budget (unfound w p s y t i u v e g here b a) f z q = unfound (bud w) p s y t i (bud u) (bud v) e g here (st w [] _ u b) (derived_budget a (after_step w [] _ u b f) z q)
  derived_budget (fallen w p s y u v e g t a) f z q = fallen (bud w) p s y (bud u) (bud v) e g (st w [] _ u t) (derived_budget a (after_step w [] _ u t f) z q)

-- A RUN THAT HALTS
ends_not : {A : Type 0} (r : Reply) (e : Ending) → e ≡ Some r → e ≡ None → A
ends_not r e f g = absurd (not_both g f)

module _ {O : Type 0} where
  -- the words that these happenings read, in front of others
  abbrev pub words_for : List (Event O) → Grants → Grants
  words_for [] gs = gs
  words_for (ev ∷ τ) gs = granted ev.place ev.what (words_for τ gs)

  -- a word of the outside is left when all has happened
  abbrev pub IsRich : World O → Type 0
  IsRich w = (x : Grant) × (xs : List Grant) × (w.grants ≡ words_for w.tape (Listed (x ∷ xs)))

  rich_step : KeepsSteps IsRich
  rich_step w p x v due s (y, ys, e) = (y, ys, granted-inj p x v.grants (words_for v.tape (Listed (y ∷ ys))) (sym s.grants ∙ e ∙ ap (λ τ. words_for τ (Listed (y ∷ ys))) s.tape))

  metered_some : {A : Type 0} (m : Meter) (y : What O) (b : Option ℕ) (x : Grant) (xs : List Grant) → metered m y b (Listed (x ∷ xs)) ≡ None → A
  metered_some m y (Some n) x xs e = absurd (not_both e refl)
  metered_some m y None Allow xs e = absurd (not_both e refl)
  metered_some m y None Deny xs e = absurd (not_both e refl)

  decide_some : {A : Type 0} (d : Act O) (T : Tree O) (p : Place) (x : Grant) (xs : List Grant) → decide d T p (Listed (x ∷ xs)) ≡ None → A
  decide_some Charge T p x xs e = metered_some Count Charged (blocked is_spent T p) x xs e
  decide_some _ T p x xs e = absurd (not_both e refl)

  opens_some : {A : Type 0} (b : Wrap O) (T : Tree O) (p : Place) (x : Grant) (xs : List Grant) → opens b T p (Listed (x ∷ xs)) ≡ None → A
  opens_some Deeper T p x xs e = metered_some Depth Nested (blocked is_deep T p) x xs e
  opens_some (Framed o back) T p x xs e = absurd (not_both e refl)

  left_words : (w : World O) (h : IsRich w) → w.tape ≡ [] → w.grants ≡ Listed (h.0 ∷ h.1)
  left_words w h t = h.2 ∙ ap (λ τ. words_for τ (Listed (h.0 ∷ h.1))) t

module _ {O I : Type 0} (prog : Table O I) (k : ℕ) where
  exits_any : (w : World O) (p : Place) (s : Wait) (n : ℤ) (ms : List (Move O)) (v : World O) (e : Ending) → Exits w p s n ms v e → Exits (budgeted k w) p s n ms (budgeted k v) e
  exits_any w p s n ms v e a = by ms a
    where
      halt : Halts w v e → Halts (budgeted k w) (budgeted k v) e
      halt x = record { tape = x.tape; same = ap (budgeted k) x.same; ending = x.ending }

      back : (l : Bool) → Exiting w p s n l v e → Exiting (budgeted k w) p s n l (budgeted k v) e
      back false x = halt x
      back true (x, y) = (step_budget k w p (Back (height_of s) (Replied (Exit n))) v x, y)

      by : (ms : List (Move O)) → Exits w p s n ms v e → Exits (budgeted k w) p s n ms (budgeted k v) e
      by [] x = halt x
      by (Come y ∷ ms) x = back (ends_call s n y) x
      by (Born o l ∷ ms) x = halt x
      by (Fall ∷ ms) x = halt x
      by (Enter u i ∷ ms) x = halt x

  rich_on : (w : World O) (p : Place) (x : What O) (u : World O) → IsDue w.tree p x → Step w p x u → IsRich w → IsRich u
  rich_on w p x u due s h = rich_step w p x u due s h

  rich_run : {w : World O} {p : Place} {x : Prog O I} {v : World O} {e : Ending} → Derives prog w p x v e → IsRich w → IsRich v
  rich_run a h = derived_keep IsRich rich_step prog a h

  pub halting : {w : World O} {p : Place} {x : Prog O I} {v : World O} {e : Ending} → Derives prog w p x v e → IsUncut w.tape → IsRich w → e ≡ None → Derives prog (budgeted k w) p x (budgeted k v) e
  halting (completed w p c) f h q = ends_not _ _ refl q
  halting (exited w p n) f h q = ends_not _ _ refl q
  halting (acted w p d y x u v e g on s a) f h q =
      acted (budgeted k w) p d y x (budgeted k u) (budgeted k v) e (decided prog k w p d x u g s f) on (st prog k w (spot p x.0) x.1 u s) (halting a (after_step prog k w _ x.1 u s f) (rich_on w _ x.1 u (decide_due d w.tree p w.grants x g) s h) q)
  halting (refused w p d y x r u g off s) f h q = ends_not _ _ refl q
  halting (unheard w p d y g t) f h q = decide_some d w.tree p h.0 h.1 (subst (λ gs. decide d w.tree p gs ≡ None) (left_words w h t) g)
  halting (went w p i y u c v e a b) f h q = went (budgeted k w) p i y (budgeted k u) c (budgeted k v) e (derived_budget prog k a f _ refl) (halting b (after_run prog k a f) (rich_run a h) q)
  halting (passed w p i y u r l a) f h q = ends_not _ _ refl q
  halting (halted w p i y u a) f h q = halted (budgeted k w) p i y (budgeted k u) (halting a f h refl)
  halting (wrapped w p b i y x inner left closed v c e g on s a t d) f h q =
      let f1 = after_step prog k w _ x.1 inner s f in
      let f2 = after_run prog k a f1 in
      let h2 = rich_run a (rich_on w _ x.1 inner (opens_due b w.tree p w.grants x g) s h) in
      wrapped (budgeted k w) p b i y x (budgeted k inner) (budgeted k left) (budgeted k closed) (budgeted k v) c e (opened prog k w p b x inner g s f) on (st prog k w (spot p x.0) x.1 inner s) (derived_budget prog k a f1 _ refl) (st prog k left p _ closed t)
      (halting d (after_step prog k left p _ closed t f2) (rich_on left p _ closed (closes_due b left.tree p (inner.tree p) (left.tree p)) t h2) q)
  halting (wrapped_passed w p b i y x inner left closed r l g on s a t) f h q = ends_not _ _ refl q
  halting (wrapped_halted w p b i y x inner left g on s a) f h q =
      wrapped_halted (budgeted k w) p b i y x (budgeted k inner) (budgeted k left) (opened prog k w p b x inner g s f) on (st prog k w (spot p x.0) x.1 inner s) (halting a (after_step prog k w _ x.1 inner s f) (rich_on w _ x.1 inner (opens_due b w.tree p w.grants x g) s h) refl)
  halting (too_deep w p b i y x u v e g deep s a) f h q =
      too_deep (budgeted k w) p b i y x (budgeted k u) (budgeted k v) e (opened prog k w p b x u g s f) deep (st prog k w (spot p x.0) x.1 u s) (halting a (after_step prog k w _ x.1 u s f) (rich_on w _ x.1 u (opens_due b w.tree p w.grants x g) s h) q)
  halting (shut w p b i y x r u g off s) f h q = ends_not _ _ refl q
  halting (unheard_inside w p b i y g t) f h q = opens_some b w.tree p h.0 h.1 (subst (λ gs. opens b w.tree p gs ≡ None) (left_words w h t) g)
  halting (called w p h down i lost y a t out inner left told back v r c e g s1 j s2 x s3 so s4 b) f l q =
      let f2 = after_step prog k out t _ inner s2 (after_step prog k w p _ out s1 f) in
      let f4 = after_step prog k told p _ back s4 (after_step prog k left t _ told s3 (after_run prog k x f2)) in
      let l2 = rich_run x (rich_on out t (In (Some (length down)) i) inner tt s2 (rich_on w p (Out h down i) out tt s1 l)) in
      let l4 = rich_on told p (Back h _) back tt s4 (rich_on left t (Done (Some (length down)) r) told tt s3 l2) in
      called (budgeted k w) p h down i lost y a t (budgeted k out) (budgeted k inner) (budgeted k left) (budgeted k told) (budgeted k back) (budgeted k v) r c e g (st prog k w p _ out s1) j (st prog k out t _ inner s2) (derived_budget prog k x f2 r refl) (st prog k left t _ told s3) so (st prog k told p _ back s4) (halting b f4 l4 q)
  halting (called_passed w p h down i lost y a t out inner left told back r g s1 j s2 x s3 l s4) f z q = ends_not _ _ refl q
  halting (called_halted w p h down i lost y a t out inner left g s1 j s2 x) f l q =
      called_halted (budgeted k w) p h down i lost y a t (budgeted k out) (budgeted k inner) (budgeted k left) g (st prog k w p _ out s1) j (st prog k out t _ inner s2)
      (halting x (after_step prog k out t _ inner s2 (after_step prog k w p _ out s1 f)) (rich_on out t (In (Some (length down)) i) inner tt s2 (rich_on w p (Out h down i) out tt s1 l)) refl)
  halting (unreached w p h down i lost y a out back v e g s1 j s2 x) f l q =
      unreached (budgeted k w) p h down i lost y a (budgeted k out) (budgeted k back) (budgeted k v) e g (st prog k w p _ out s1) j (st prog k out p _ back s2)
      (halting x (after_step prog k out p _ back s2 (after_step prog k w p _ out s1 f)) (rich_on out p (Back h (Replied (Completed lost))) back tt s2 (rich_on w p (Out h down i) out tt s1 l)) q)
  halting (called_out w p h down i lost y u v e g s a) f l q = called_out (budgeted k w) p h down i lost y (budgeted k u) (budgeted k v) e g (st prog k w p _ u s) (halting a (after_step prog k w p _ u s f) (rich_on w p (Out h down i) u tt s l) q)
  halting (unanswered w p s y g j t) f h q = unanswered (budgeted k w) p s y g j t
  halting (unfit w p s y a ms g j l t) f h q = unfit (budgeted k w) p s y a ms g j l t
  halting (answered w p s y c u v e g j t a) f h q = answered (budgeted k w) p s y c (budgeted k u) (budgeted k v) e g j (st prog k w p _ u t) (halting a (after_step prog k w p _ u t f) (rich_on w p (Back (height_of s) (Replied (Completed c))) u tt t h) q)
  halting (heard w p s y x u v e g j t a) f h q = heard (budgeted k w) p s y x (budgeted k u) (budgeted k v) e g j (st prog k w p _ u t) (halting a (after_step prog k w p _ u t f) (rich_on w p (Back (height_of s) (Heard x)) u tt t h) q)
  halting (missed w p s y u v e g j t a) f h q = missed (budgeted k w) p s y (budgeted k u) (budgeted k v) e g j (st prog k w p _ u t) (halting a (after_step prog k w p _ u t f) (rich_on w p (Back (height_of s) Nobody) u tt t h) q)
  halting (answered_passed w p s y r u l g j t) f h q = ends_not _ _ refl q
  halting (entered w p s y t i inner left told v r e g here s1 a s2 n b) f h q =
      let f1 = after_step prog k w t _ inner s1 f in
      let h1 = rich_on w t (In None i) inner tt s1 h in
      entered (budgeted k w) p s y t i (budgeted k inner) (budgeted k left) (budgeted k told) (budgeted k v) r e g here (st prog k w t _ inner s1) (derived_budget prog k a f1 r refl) (st prog k left t _ told s2) n
      (halting b (after_step prog k left t _ told s2 (after_run prog k a f1)) (rich_on left t (Done None r) told tt s2 (rich_run a h1)) q)
  halting (entered_halted w p s y t i inner left g here s1 a) f h q = entered_halted (budgeted k w) p s y t i (budgeted k inner) (budgeted k left) g here (st prog k w t _ inner s1) (halting a (after_step prog k w t _ inner s1 f) (rich_on w t (In None i) inner tt s1 h) refl)
  halting (entered_exiting w p s y t i inner left told v n e g here s1 a s2 b) f h q =
      entered_exiting (budgeted k w) p s y t i (budgeted k inner) (budgeted k left) (budgeted k told) (budgeted k v) n e g here (st prog k w t _ inner s1) (derived_budget prog k a (after_step prog k w t _ inner s1 f) (Exit n) refl) (st prog k left t _ told s2) (exits_any told p s n told.moves v e b)
  halting (born w p s y o b u v e g t a) f h q = born (budgeted k w) p s y o b (budgeted k u) (budgeted k v) e g (st prog k w [] _ u t) (halting a (after_step prog k w [] _ u t f) (rich_on w [] (Made o b) u tt t h) q)
  halting (unfound w p s y t i u v e g here b a) f h q = unfound (budgeted k w) p s y t i (budgeted k u) (budgeted k v) e g here (st prog k w [] _ u b) (halting a (after_step prog k w [] _ u b f) (rich_on w [] (Unfound t i (prog.lost t)) u tt b h) q)
  halting (fallen w p s y u v e g t a) f h q = fallen (budgeted k w) p s y (budgeted k u) (budgeted k v) e g (st prog k w [] _ u t) (halting a (after_step prog k w [] _ u t f) (rich_on w [] Dropped u tt t h) q)
