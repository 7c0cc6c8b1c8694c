-- Who plays moves is never at a loss.
use Rattle.tcl_core.specs.Endings.{Completion}
use Rattle.std.proofs.Common.{sym, ◌≡◌, ◌⊎◌, inl, inr, ℕ, zero, suc, ℤ, Bool, true, false, List, [], ◌∷◌, Option, Some, None, refl, ◌∙◌, ap, subst, arith}
use Rattle.std.proofs.lemmas.Bool.Decides.{Decides-int_eq}
use Rattle.std.proofs.lemmas.Bool.{false≢true}
use Rattle.tcl_core.specs.Paths.{Path, Place, Height, rise_to}
use Rattle.tcl_core.specs.Endings.Meter.{Count}
use Rattle.tcl_core.specs.Endings.Reply.{Completed, Stop, Exit, Cut}
use Rattle.tcl_core.specs.Endings.Cause.{Over}
use Rattle.tcl_core.specs.Entries.{Entry, Answer}
use Rattle.tcl_core.specs.Entries.Answer.{Replied, Heard, Nobody}
use Rattle.tcl_core.specs.Trees.{Tree, Event, Move}
use Rattle.tcl_core.specs.Trees.Move.{Born, Fall, Enter, Come}
use Rattle.tcl_core.specs.Trees.What.{Charged, Refused, Out, In, Done, Back, Unfound}
use Rattle.tcl_core.specs.Programs.{Wait}
use Rattle.tcl_core.specs.Runs.{is_exit, is_told, gone}
use Rattle.tcl_core.specs.Execution.{event}
use Rattle.tcl_core.specs.Lives.{Outcome}
use Rattle.tcl_core.specs.Lives.Outcome.{Exited}
use Rattle.tcl_core.specs.Laws.{KeepsTop}
use Rattle.tcl_reactions.specs.Laws.{HasExited, NeverStuck}
use Rattle.tcl_reactions.specs.Playing.{Answers, Fate, HandsIn, IsCut, IsNoCut, Player, Refuses, Tells, last_end, past, plays, reading, stopping, suits, telling}
use Rattle.tcl_reactions.specs.Playing.Answers.{reads, ends, waits, unfits, passes}
use Rattle.tcl_reactions.specs.Playing.Fate.{Waits, Unfits, EndsAbove, Spends}
use Rattle.tcl_reactions.proofs.Turns.{done_end}
use Rattle.tcl_reactions.proofs.Waited.{}
use Rattle.tcl_reactions.proofs.Ways.{fits_open}

cut_or_not : (a : Answer) → IsCut a ⊎ IsNoCut a
cut_or_not (Heard a) = inr tt
cut_or_not Nobody = inr tt
cut_or_not (Replied (Completed c)) = inr tt
cut_or_not (Replied (Stop n m)) = inr tt
cut_or_not (Replied (Exit n)) = inr tt
cut_or_not (Replied (Cut c)) = inl tt

pub same_exit : (n : ℤ) (a : Answer) → is_exit n a ≡ true → a ≡ Replied (Exit n)
same_exit n (Heard a) e = absurd (false≢true e)
same_exit n Nobody e = absurd (false≢true e)
same_exit n (Replied (Completed c)) e = absurd (false≢true e)
same_exit n (Replied (Stop k m)) e = absurd (false≢true e)
same_exit n (Replied (Cut c)) e = absurd (false≢true e)
same_exit n (Replied (Exit k)) e = let f : n ≡ k = grind (arith, Decides-int_eq n k, e) in ap (λ j. Replied (Exit j)) (sym f)

pub own_exit : (g : Option ℕ) (h : Height) (i : Entry) (n : ℤ) → is_told g h i (Replied (Exit n)) ≡ true
own_exit None (Some h) i n = refl
own_exit None None i n = refl
own_exit (Some g) h i n = refl

-- what suits is an answer of the call's own
own : (O : Type 0) (T : Tree O) (p : Place) (x : Outcome) (h : Height) (i : Entry) (d : ℕ) (a : Answer) → suits x T p (Some (h, i, d)) (Come a) ≡ true → is_told (gone d T p) h i a ≡ true
own O T p (Exited n) h i d a e = subst (λ y. is_told (gone d T p) h i y ≡ true) (sym (same_exit n a e)) (own_exit (gone d T p) h i n)
own O T p x h i d a e = e

only_exit : {A O : Type 0} (T : Tree O) (p : Place) (n : ℤ) (s : Wait) (m : Move O) → suits (Exited n) T p s m ≡ true → (m ≡ Come (Replied (Exit n)) → A) → A
only_exit T p n s (Come a) e f = f (ap Come (same_exit n a e))
only_exit T p n s (Enter t i) e f = absurd (false≢true e)
only_exit T p n s (Born o b) e f = absurd (false≢true e)
only_exit T p n s Fall e f = absurd (false≢true e)

module _ {O : Type 0} where
  within : (l : Option Place) (o : Player O) (t : Player O → Type 0) → ((z : Player O) × t z) → (z : Player O) × past l o z (t z)
  within None o t g = g
  within (Some a) o t g = (o, refl)

  inner : (l : Option Place) (a : Place) (o : Player O) (t : Player O → Type 0) → l ≡ Some a → (z : Player O) × past l o z (t z)
  inner l a o t e = subst (λ k. (z : Player O) × past k o z (t z)) (sym e) (o, refl)

  outer : (l : Option Place) (o z : Player O) (t : Type 0) → l ≡ None → t → past l o z t
  outer l o z t e g = subst (λ k. past k o z t) (sym e) g

  tells : (f : Option (Fate O)) (o : Player O) (ev : Event O) → (z : Player O) × Tells f o ev z
  tells None o ev = (telling o ev, refl)
  tells (Some f) o ev = (o, refl)

  pays_or_not : (T : Tree O) (p : Place) (o : Player O) (f : Option (Fate O)) (n : ℕ) → o.fate ≡ f → o.steps ≡ n → ((z : Player O) × plays T o None (event p Charged) z) ⊎ ((z : Player O) × plays T o None (event p (Refused Count None)) z)
  pays_or_not T p o None (suc n) e g = inl (record { left = o.left; steps = n; outs = o.outs; fate = o.fate }, (e, g, refl))
  pays_or_not T p o None zero e g = inr (stopping o Spends, subst (λ f. Refuses f o (stopping o Spends)) (sym e) (g, refl))
  pays_or_not T p o (Some f) n e g = inr (o, subst (λ k. Refuses k o o) (sym e) refl)

  abbrev Next : Tree O → Place → Height → Entry → ℕ → Player O → Type 0
  Next T p h i d o = ((t : Path) × (e : Entry) × (z : Player O) × HandsIn o t e z) ⊎ ((a : Answer) × (z : Player O) × Answers T p o (Some (h, i, d)) a z × (is_told (gone d T p) h i a ≡ true))

  over_by : (T : Tree O) (p : Place) (h : Height) (i : Entry) (d : ℕ) (o : Player O) (z : Player O) → Answers T p o (Some (h, i, d)) (Replied (Cut Over)) z → Next T p h i d o
  over_by T p h i d o z a = inr (Replied (Cut Over), z, a, fits_open O T p (h, i, d) (Cut Over) tt)

  answered_so : (T : Tree O) (p : Place) (h : Height) (i : Entry) (d : ℕ) (o : Player O) (b : Answer) (ms : List (Move O)) → o.fate ≡ None → o.left ≡ Come b ∷ ms → suits (last_end o) T p (Some (h, i, d)) (Come b) ≡ true → IsCut b ⊎ IsNoCut b → Next T p h i d o
  answered_so T p h i d o b ms n l e (inl c) = over_by T p h i d o (stopping (reading o ms) EndsAbove) (ends b ms n l e c tt refl)
  answered_so T p h i d o b ms n l e (inr c) = inr (b, reading o ms, reads ms n l e c refl, own O T p (last_end o) h i d b e)

  next_move : (T : Tree O) (p : Place) (h : Height) (i : Entry) (d : ℕ) (o : Player O) (m : Move O) (ms : List (Move O)) → o.fate ≡ None → o.left ≡ m ∷ ms → KeepsTop (m ∷ ms) → (b : Bool) → suits (last_end o) T p (Some (h, i, d)) m ≡ b → Next T p h i d o
  next_move T p h i d o m ms n l k false e = over_by T p h i d o (stopping o Unfits) (unfits m ms n l e tt refl)
  next_move T p h i d o (Come b) ms n l k true e = answered_so T p h i d o b ms n l e (cut_or_not b)
  next_move T p h i d o (Enter t q) ms n l k true e = inl (t, q, reading o ms, (n, l, refl))
  next_move T p h i d o (Born q b) ms n l k true e = absurd k
  next_move T p h i d o Fall ms n l k true e = absurd k

  next_of : (T : Tree O) (p : Place) (h : Height) (i : Entry) (d : ℕ) (o : Player O) (f : Option (Fate O)) (ms : List (Move O)) → o.fate ≡ f → o.left ≡ ms → KeepsTop ms → Next T p h i d o
  next_of T p h i d o (Some f) ms e l k = over_by T p h i d o o (passes f e tt refl)
  next_of T p h i d o None [] e l k = over_by T p h i d o (stopping o (Waits T)) (waits e l tt refl)
  next_of T p h i d o None (m ∷ ms) e l k = next_move T p h i d o m ms e l k (suits (last_end o) T p (Some (h, i, d)) m) refl

  next_at : (T : Tree O) (p : Place) (h : Height) (i : Entry) (d : ℕ) (o : Player O) → rise_to h p ≡ None → Next T p h i d o →
      ((t : Path) × (e : Entry) × ((z : Player O) × plays T o None (event t (In None e)) z) × ((c : Completion) → (z : Player O) × plays T o None (event [] (Unfound t e c)) z)) ⊎ ((a : Answer) × (z : Player O) × plays T o (Some (h, i, d)) (event p (Back h a)) z × (is_told (gone d T p) h i a ≡ true))
  next_at T p h i d o e (inl (t, q, z, g)) = inl (t, q, (z, g), (λ c. (telling z (event t (Done None (Completed c))), (z, g, refl))))
  next_at T p h i d o e (inr (a, z, g, w)) = inr (a, z, outer (rise_to h p) o z (Answers T p o (Some (h, i, d)) a z) e g, w)

  exit_told : (f : Option (Fate O)) (t : Path) (n : ℤ) (o z : Player O) → o.fate ≡ f → Tells f o (event t (Done None (Exit n))) z → HasExited z n
  exit_told None t n o z e g = inr (done_end t (Exit n) o z g)
  exit_told (Some f) t n o z e g = inl (f, ap (λ y. y.fate) g ∙ e)

  abbrev Exits_so : Tree O → Place → Height → Entry → ℕ → ℤ → Player O → Type 0
  Exits_so T p h i d n o = (z : Player O) × Answers T p o (Some (h, i, d)) (Replied (Exit n)) z

  exit_move : (T : Tree O) (p : Place) (h : Height) (i : Entry) (d : ℕ) (n : ℤ) (o : Player O) (m : Move O) (ms : List (Move O)) → o.fate ≡ None → o.left ≡ m ∷ ms → last_end o ≡ Exited n → (b : Bool) → suits (last_end o) T p (Some (h, i, d)) m ≡ b → Exits_so T p h i d n o
  exit_move T p h i d n o m ms e l x false g = (stopping o Unfits, unfits m ms e l g tt refl)
  exit_move T p h i d n o m ms e l x true g =
      only_exit T p n (Some (h, i, d)) m (subst (λ y. suits y T p (Some (h, i, d)) m ≡ true) x g) (λ q. (reading o ms, reads ms e (l ∙ ap (λ y. y ∷ ms) q) (subst (λ y. suits (last_end o) T p (Some (h, i, d)) y ≡ true) q g) tt refl))

  exit_of : (T : Tree O) (p : Place) (h : Height) (i : Entry) (d : ℕ) (n : ℤ) (o : Player O) (f : Option (Fate O)) (ms : List (Move O)) → o.fate ≡ f → o.left ≡ ms → last_end o ≡ Exited n → Exits_so T p h i d n o
  exit_of T p h i d n o (Some f) ms e l x = (o, passes f e tt refl)
  exit_of T p h i d n o None [] e l x = (stopping o (Waits T), waits e l tt refl)
  exit_of T p h i d n o None (m ∷ ms) e l x = exit_move T p h i d n o m ms e l x (suits (last_end o) T p (Some (h, i, d)) m) refl

  exits_at : (T : Tree O) (p : Place) (h : Height) (i : Entry) (d : ℕ) (n : ℤ) (o : Player O) → rise_to h p ≡ None → HasExited o n → Exits_so T p h i d n o
  exits_at T p h i d n o e (inl (f, g)) = (o, passes f g tt refl)
  exits_at T p h i d n o e (inr g) = exit_of T p h i d n o o.fate o.left refl refl g

  pub never_stuck : NeverStuck O
  never_stuck = record {
    steps = λ T p o. pays_or_not T p o o.fate o.steps refl refl;
    drops = λ T p o. (o, refl);
    goes_out = λ T p h down i o. within (rise_to h p) o (Tells o.fate o (event p (Out h down i))) (tells o.fate o (event p (Out h down i)));
    comes_in = λ T p a h i o e. inner (rise_to h p) a o (HandsIn o p i) e;
    is_done = λ T p h r o. within (rise_to h p) o (Tells o.fate o (event p (Done h r))) (tells o.fate o (event p (Done h r)));
    comes_back = λ T p a h y o e. inner (rise_to h p) a o (Answers T p o None y) e;
    next = λ T p h i d o e k. next_at T p h i d o e (next_of T p h i d o o.fate o.left refl refl k);
    has_exited = λ T t n o z g. exit_told o.fate t n o z refl g;
    exits = λ T p h i d n o e g. let x : Exits_so T p h i d n o = exits_at T p h i d n o e g in (x.0, outer (rise_to h p) o x.0 (Answers T p o (Some (h, i, d)) (Replied (Exit n)) x.0) e x.1);
  }
