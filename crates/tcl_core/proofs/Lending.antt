-- A run and one under a budget: they go the same way up to where the outside of the first refuses.
use Rattle.std.proofs.Common.{◌≡◌, ◌⊎◌, inl, inr, ℕ, zero, suc, ℤ, ◌+◌, Bool, true, false, List, [], ◌∷◌, ◌++◌, Option, Some, None, length, refl, sym, ◌∙◌, ap, append_assoc, subst}
use Rattle.tcl_core.specs.Paths.{Path, Place, Height, rise_to}
use Rattle.tcl_core.specs.Endings.{Meter, Completion, Reply, Cause, refusal}
use Rattle.tcl_core.specs.Endings.Meter.{Count, Depth}
use Rattle.tcl_core.specs.Endings.Reply.{Completed, Stop, Exit, Cut}
use Rattle.tcl_core.specs.Entries.{Entry, Answer, Said}
use Rattle.tcl_core.specs.Entries.Answer.{Replied, Heard, Nobody}
use Rattle.tcl_core.specs.Entries.Said.{Finished, Told, Missed}
use Rattle.tcl_core.specs.Trees.{Tree, What, Event, Move, Grants, granted, allowing, denied, at, asked, depth_of, Node}
use Rattle.tcl_core.specs.Trees.Grants.{Listed, Budget}
use Rattle.tcl_core.specs.Programs.Act.{Look, Change, Charge, Limit, LimitDepth, Make, Drop}
use Rattle.tcl_core.specs.Programs.Wrap.{Deeper, Framed}
use Rattle.tcl_core.proofs.PathLaws.{not_both}
use Rattle.tcl_core.specs.Trees.What.{Charged, Nested, Refused, Made, Dropped, Out, In, Done, Back, Unfound}
use Rattle.tcl_core.specs.Trees.Move.{Born, Fall, Enter, Come}
use Rattle.tcl_core.specs.Programs.{Act, Deed, spot, Wrap, Wait, Next, Prog, Table, decide, opens, closes, metered, blocked, is_spent, is_deep, or_lost}
use Rattle.tcl_core.specs.Programs.Next.{On, TooDeep, Off}
use Rattle.tcl_core.specs.Programs.Prog.{done, exit, act, go, inside, call, wait}
use Rattle.tcl_core.specs.Runs.{World, Step, Ending, Run, Halts, Follows, Then, Closes, Acted, Acts, Opened, Opens, Hears, Answered, Leaves, Visits, Returns, Reaches, Calls, Exiting, Exits, Stays, Moves, Fitting, Waits, Unrolled, RunsIn, Runs, carried, reached, fits, ends_call, height_of, gone, Enters}
use Rattle.tcl_core.specs.Views.{moves_of, steps_of}
use Rattle.tcl_core.proofs.Folding.{unroll}
use Rattle.tcl_core.specs.Laws.{AtMove}
use Rattle.tcl_core.proofs.SameRuns.{asked-inj, granted-inj}
use Rattle.tcl_core.proofs.MoreMoves.{asked_more}
use Rattle.tcl_core.proofs.Parting.{Silent, act_silent, opens_silent, closes_silent, in_silent, back_silent, back_reads, reads_at}
use Rattle.tcl_core.proofs.Budgets.{budgeted, step_budget, decide_budget, opens_budget}
use Rattle.tcl_core.proofs.Unended.{IsNoCut, decide_uncut, opens_uncut}
use Rattle.tcl_core.proofs.Refusals.{IsRefusal, cut_or, decide_refused, opens_refused}
use Rattle.tcl_core.specs.Endings.Kind.{Full}

-- words of the outside, and no budget
abbrev pub IsListed : Grants → Type 0
IsListed (Listed gs) = Unit {0}
IsListed (Budget n) = Prim.⊥

allowing_listed : (m : Meter) (gs : Grants) → IsListed gs → IsListed (allowing m gs)
allowing_listed m (Listed gs) f = tt
allowing_listed m (Budget n) f = absurd f

denied_listed : (o : Option Place) (gs : Grants) → IsListed gs → IsListed (denied o gs)
denied_listed None (Listed gs) f = tt
denied_listed None (Budget n) f = absurd f
denied_listed (Some a) gs f = f

module _ {O : Type 0} where
  -- nothing more, or a refusal from outside
  abbrev pub AtRefusal : List (Event O) → Type 0
  AtRefusal [] = Unit {0}
  AtRefusal (ev ∷ τ) = IsRefusal ev.place ev.what

  granted_listed : (p : Place) (x : What O) (gs : Grants) → IsListed gs → IsListed (granted p x gs)
  granted_listed p Charged gs f = allowing_listed Count gs f
  granted_listed p Nested gs f = allowing_listed Depth gs f
  granted_listed p (Refused m h) gs f = denied_listed (rise_to h p) gs f
  granted_listed p x gs f = f

  none_listed : (m : Meter) (y : What O) (b : Option ℕ) (gs : Grants) → metered m y b gs ≡ None → IsListed gs
  none_listed m y b (Listed gs) e = tt
  none_listed m y (Some n) (Budget j) e = absurd (not_both e refl)
  none_listed Count y None (Budget zero) e = absurd (not_both e refl)
  none_listed Count y None (Budget (suc n)) e = absurd (not_both e refl)
  none_listed Depth y None (Budget n) e = absurd (not_both e refl)

  decide_listed : (d : Act O) (T : Tree O) (p : Place) (gs : Grants) → decide d T p gs ≡ None → IsListed gs
  decide_listed Charge T p gs e = none_listed Count Charged (blocked is_spent T p) gs e
  decide_listed Look T p gs e = absurd (not_both e refl)
  decide_listed (Change o) T p gs e = absurd (not_both e refl)
  decide_listed (Limit l) T p gs e = absurd (not_both e refl)
  decide_listed (LimitDepth l) T p gs e = absurd (not_both e refl)
  decide_listed (Make name o s) T p gs e = absurd (not_both e refl)
  decide_listed (Drop name) T p gs e = absurd (not_both e refl)

  opens_listed : (b : Wrap O) (T : Tree O) (p : Place) (gs : Grants) → opens b T p gs ≡ None → IsListed gs
  opens_listed Deeper T p gs e = none_listed Depth Nested (blocked is_deep T p) gs e
  opens_listed (Framed o back) T p gs e = absurd (not_both e refl)

  -- where the first comes to its end for want of a word, it has words and no budget
  abbrev pub IsStop : World O → List (Event O) → Type 0
  IsStop w τ = AtRefusal τ × (τ ≡ [] → IsListed w.grants)

  stop_step : (w : World O) (p : Place) (x : What O) (u : World O) → Step w p x u → IsListed u.grants → IsListed w.grants
  stop_step w p x u s f = subst IsListed (sym s.grants) (granted_listed p x u.grants f)

  pub moves_append : (a b : List (Event O)) → moves_of (a ++ b) ≡ moves_of a ++ moves_of b
  moves_append [] b = refl
  moves_append (ev ∷ a) b = ap (asked ev.place ev.what) (moves_append a b) ∙ sym (asked_more ev.place ev.what (moves_of a) (moves_of b))

-- The first has the moves a and then b0, the second the same a and then y0.
module _ {O : Type 0} (k : ℕ) (b0 y0 : List (Move O)) where
  -- the same world, with a budget of the steps that are still made, and k more, with these moves and another tape
  abbrev pub lent : World O → List (Move O) → List (Event O) → World O
  lent w a τ = record { tree = w.tree; moves = a ++ y0; grants = Budget (steps_of w.tape + k); tape = τ }

  -- they went the same way to the end
  pub record Together (w : World O) (a : List (Move O)) (τ : List (Event O)) (v : World O) (e : Ending) (y : World O) (o : Ending) : Type 0 where
    pub rest : List (Event O)
    pub made : List (Event O)
    pub left : List (Move O)
    pub used : a ≡ moves_of made ++ left
    pub moves : v.moves ≡ left ++ b0
    pub world : y ≡ lent v left rest
    pub ending : o ≡ e
    pub first : w.tape ≡ made ++ v.tape
    pub second : τ ≡ made ++ rest
    pub listed : IsListed v.grants → IsListed w.grants

  -- they went the same way up to a refusal, or to where the moves are used up that both have
  pub record Apart (w : World O) (a : List (Move O)) (τ : List (Event O)) : Type 0 where
    pub made : List (Event O)
    pub rest1 : List (Event O)
    pub rest2 : List (Event O)
    pub first : w.tape ≡ made ++ rest1
    pub second : τ ≡ made ++ rest2
    pub at : IsStop w rest1 ⊎ ((a ≡ moves_of made) × AtMove rest1 × AtMove rest2)

  abbrev pub Alike : World O → List (Move O) → List (Event O) → World O → Ending → World O → Ending → Type 0
  Alike w a τ v e y o = Together w a τ v e y o ⊎ Apart w a τ

  abbrev pub Has : World O → List (Move O) → Type 0
  Has w a = w.moves ≡ a ++ b0

  lent_step : (w : World O) (a0 : List (Move O)) (τ : List (Event O)) (p : Place) (x : What O) (u z : World O) (a1 : List (Move O)) → a0 ≡ asked p x a1 → Step w p x u → Step (lent w a0 τ) p x z → z ≡ lent u a1 z.tape
  lent_step w a0 τ p x u z a1 q s t =
      let b : Step (budgeted k w) p x (budgeted k u) = step_budget k w p x u s in
      let c : z.tree ≡ u.tree = t.tree ∙ sym s.tree in
      let d : z.moves ≡ a1 ++ y0 = asked-inj p x z.moves (a1 ++ y0) (sym t.moves ∙ ap (λ l. l ++ y0) q ∙ asked_more p x a1 y0) in
      let f : z.grants ≡ Budget (steps_of u.tape + k) = granted-inj p x z.grants (Budget (steps_of u.tape + k)) (sym t.grants ∙ b.grants) in
      λ i. record { tree = c i; moves = d i; grants = f i; tape = z.tape }

  left_step : (w : World O) (a0 : List (Move O)) (p : Place) (x : What O) (u : World O) (a1 : List (Move O)) → a0 ≡ asked p x a1 → Step w p x u → Has w a0 → Has u a1
  left_step w a0 p x u a1 q s m = asked-inj p x u.moves (a1 ++ b0) (sym s.moves ∙ m ∙ ap (λ l. l ++ b0) q ∙ asked_more p x a1 b0)

  -- after one happening
  after_step : (w : World O) (a0 : List (Move O)) (τ : List (Event O)) (p : Place) (x : What O) (u z : World O) (a1 : List (Move O)) → a0 ≡ asked p x a1 → Step w p x u → Step (lent w a0 τ) p x z → (v : World O) (e : Ending) (y : World O) (o : Ending) → Alike u a1 z.tape v e y o → Alike w a0 τ v e y o
  after_step w a0 τ p x u z a1 q s t v e y o (inl a) = inl (record {
    rest = a.rest;
    made = record { place = p; what = x } ∷ a.made;
    left = a.left;
    used = q ∙ ap (asked p x) a.used ∙ sym (asked_more p x (moves_of a.made) a.left);
    moves = a.moves;
    world = a.world;
    ending = a.ending;
    first = s.tape ∙ ap (λ l. record { place = p; what = x } ∷ l) a.first;
    second = t.tape ∙ ap (λ l. record { place = p; what = x } ∷ l) a.second;
    listed = λ f. stop_step w p x u s (a.listed f);
  })
  after_step w a0 τ p x u z a1 q s t v e y o (inr a) = inr (record {
    made = record { place = p; what = x } ∷ a.made;
    rest1 = a.rest1;
    rest2 = a.rest2;
    first = s.tape ∙ ap (λ l. record { place = p; what = x } ∷ l) a.first;
    second = t.tape ∙ ap (λ l. record { place = p; what = x } ∷ l) a.second;
    at = by a.at;
  })
    where
      by : IsStop u a.rest1 ⊎ ((a1 ≡ moves_of a.made) × AtMove a.rest1 × AtMove a.rest2) → IsStop w a.rest1 ⊎ ((a0 ≡ asked p x (moves_of a.made)) × AtMove a.rest1 × AtMove a.rest2)
      by (inl f) = inl (f.0, λ g. stop_step w p x u s (f.1 g))
      by (inr (f, g, h)) = inr (q ∙ ap (asked p x) f, g, h)

  -- after a run
  after_run : (w : World O) (a0 : List (Move O)) (τ : List (Event O)) (u : World O) (o : Ending) (z : World O) (m : Ending) → Alike w a0 τ u o z m → (v : World O) (e : Ending) (y : World O) (l : Ending) → ((a : Together w a0 τ u o z m) → Alike u a.left a.rest v e y l) → Alike w a0 τ v e y l
  after_run w a0 τ u o z m (inr a) v e y l f = inr a
  after_run w a0 τ u o z m (inl a) v e y l f = by (f a)
    where
      more : (b : List (Event O)) (l : List (Move O)) → a.left ≡ moves_of b ++ l → a0 ≡ moves_of (a.made ++ b) ++ l
      more b l g = a.used ∙ ap (λ j. moves_of a.made ++ j) g ∙ sym (append_assoc (moves_of a.made) (moves_of b) l) ∙ ap (λ j. j ++ l) (sym (moves_append a.made b))

      parted : (r1 r2 b : List (Event O)) → IsStop u r1 ⊎ ((a.left ≡ moves_of b) × AtMove r1 × AtMove r2) → IsStop w r1 ⊎ ((a0 ≡ moves_of (a.made ++ b)) × AtMove r1 × AtMove r2)
      parted r1 r2 b (inl g) = inl (g.0, λ h. a.listed (g.1 h))
      parted r1 r2 b (inr (g, h, i)) = inr (a.used ∙ ap (λ j. moves_of a.made ++ j) g ∙ sym (moves_append a.made b), h, i)

      by : Alike u a.left a.rest v e y l → Alike w a0 τ v e y l
      by (inl b) = inl (record {
        rest = b.rest;
        made = a.made ++ b.made;
        left = b.left;
        used = more b.made b.left b.used;
        moves = b.moves;
        world = b.world;
        ending = b.ending;
        first = a.first ∙ ap (λ t. a.made ++ t) b.first ∙ sym (append_assoc a.made b.made v.tape);
        second = a.second ∙ ap (λ t. a.made ++ t) b.second ∙ sym (append_assoc a.made b.made b.rest);
        listed = λ g. a.listed (b.listed g);
      })
      by (inr b) = inr (record {
        made = a.made ++ b.made;
        rest1 = b.rest1;
        rest2 = b.rest2;
        first = a.first ∙ ap (λ t. a.made ++ t) b.first ∙ sym (append_assoc a.made b.made b.rest1);
        second = a.second ∙ ap (λ t. a.made ++ t) b.second ∙ sym (append_assoc a.made b.made b.rest2);
        at = parted b.rest1 b.rest2 b.made b.at;
      })

  -- nothing happens
  at_once : (w : World O) (a0 : List (Move O)) (τ : List (Event O)) → Has w a0 → (v : World O) (e : Ending) (y : World O) (o : Ending) → v ≡ w → y ≡ lent w a0 τ → e ≡ o → Alike w a0 τ v e y o
  at_once w a0 τ m v e y o a b c = inl (record {
    rest = τ;
    made = [];
    left = a0;
    used = refl;
    moves = ap (λ u. u.moves) a ∙ m;
    world = b ∙ ap (λ u. lent u a0 τ) (sym a);
    ending = sym c;
    first = ap (λ u. u.tape) (sym a);
    second = refl;
    listed = λ f. subst (λ u. IsListed u.grants) a f;
  })

  both_end : (w : World O) (a0 : List (Move O)) (τ : List (Event O)) → Has w a0 → (v : World O) (e : Ending) (y : World O) (o r : Ending) → v ≡ w → e ≡ r → y ≡ lent w a0 τ → o ≡ r → Alike w a0 τ v e y o
  both_end w a0 τ m v e y o r a b c d = at_once w a0 τ m v e y o a c (b ∙ sym d)

  both_halt : (w : World O) (a0 : List (Move O)) (τ : List (Event O)) → Has w a0 → (v : World O) (e : Ending) (y : World O) (o : Ending) → Halts w v e → Halts (lent w a0 τ) y o → Alike w a0 τ v e y o
  both_halt w a0 τ m v e y o a b = at_once w a0 τ m v e y o a.same b.same (a.ending ∙ sym b.ending)

  -- a happening, and then the end
  step_end : (w : World O) (a0 : List (Move O)) (τ : List (Event O)) → Has w a0 → (p : Place) (x : What O) (u z : World O) (a1 : List (Move O)) → a0 ≡ asked p x a1 → Step w p x u → Step (lent w a0 τ) p x z → (v : World O) (e : Ending) (y : World O) (o r : Ending) → v ≡ u → e ≡ r → y ≡ z → o ≡ r → Alike w a0 τ v e y o
  step_end w a0 τ m p x u z a1 q s t v e y o r a b c d =
      after_step w a0 τ p x u z a1 q s t v e y o (both_end u a1 z.tape (left_step w a0 p x u a1 q s m) v e y o r a b (c ∙ lent_step w a0 τ p x u z a1 q s t) d)

  -- the first halts here, or is refused
  one_halts : (w : World O) (a0 : List (Move O)) (τ : List (Event O)) (v : World O) (e : Ending) (y : World O) (o : Ending) → w.tape ≡ [] → IsListed w.grants → Alike w a0 τ v e y o
  one_halts w a0 τ v e y o f g = inr (record { made = []; rest1 = w.tape; rest2 = τ; first = refl; second = refl; at = inl (subst AtRefusal (sym f) tt, λ h. g) })

  one_refused : (w u : World O) (a0 : List (Move O)) (τ : List (Event O)) (p : Place) (x : What O) (v : World O) (e : Ending) (y : World O) (o : Ending) → Step w p x u → IsRefusal p x → Alike w a0 τ v e y o
  one_refused w u a0 τ p x v e y o s f = inr (record { made = []; rest1 = w.tape; rest2 = τ; first = refl; second = refl; at = inl (subst AtRefusal (sym s.tape) f, λ g. absurd (bad (sym s.tape ∙ g))) })
    where
      bad : record { place = p; what = x } ∷ u.tape ≡ [] → Prim.⊥
      bad h = cc

  -- the moves are used up that both have
  used_up : (w : World O) (τ : List (Event O)) (v : World O) (e : Ending) (y : World O) (o : Ending) → AtMove w.tape → AtMove τ → Alike w [] τ v e y o
  used_up w τ v e y o f g = inr (record { made = []; rest1 = w.tape; rest2 = τ; first = refl; second = refl; at = inr (refl, f, g) })

  module _ {I : Type 0} where
    abbrev pub Meets : Run O I → Run O I → Type 0
    Meets R S = (w : World O) (a0 : List (Move O)) (τ : List (Event O)) (m0 : Has w a0) (p : Place) (x : Prog O I) (v : World O) (e : Ending) (y : World O) (o : Ending) → R w p x v e → S (lent w a0 τ) p x y o → Alike w a0 τ v e y o

    module _ (prog : Table O I) (R S : Run O I) (det : Meets R S) where
      -- a happening, here or elsewhere, and then a run
      pub step_goes_on : (w : World O) (a0 : List (Move O)) (τ : List (Event O)) (m0 : Has w a0) (p t : Place) (x : What O) (a1 : List (Move O)) → a0 ≡ asked t x a1 → (u z : World O) (f : Prog O I) (v : World O) (e : Ending) (y : World O) (o : Ending) → Step w t x u → Step (lent w a0 τ) t x z → R u p f v e → S z p f y o → Alike w a0 τ v e y o
      step_goes_on w a0 τ m0 p t x a1 q u z f v e y o s s2 a b =
          after_step w a0 τ t x u z a1 q s s2 v e y o (det u a1 z.tape (left_step w a0 t x u a1 q s m0) p f v e y o a (subst (λ m. S m p f y o) (lent_step w a0 τ t x u z a1 q s s2) b))

      follows_meet : (w : World O) (a0 : List (Move O)) (τ : List (Event O)) (m0 : Has w a0) (p : Place) (k : Completion → Prog O I) (r : Reply) (v : World O) (e : Ending) (y : World O) (o : Ending) → Follows R w p k r v e → Follows S (lent w a0 τ) p k r y o → Alike w a0 τ v e y o
      follows_meet w a0 τ m0 p k (Completed c) v e y o a b = det w a0 τ m0 p (k c) v e y o a b
      follows_meet w a0 τ m0 p k (Stop n m) v e y o a b = both_end w a0 τ m0 v e y o (Some (Stop n m)) a.0 a.1 b.0 b.1
      follows_meet w a0 τ m0 p k (Exit n) v e y o a b = both_end w a0 τ m0 v e y o (Some (Exit n)) a.0 a.1 b.0 b.1
      follows_meet w a0 τ m0 p k (Cut c) v e y o a b = both_end w a0 τ m0 v e y o (Some (Cut c)) a.0 a.1 b.0 b.1

      then_meet : (w : World O) (a0 : List (Move O)) (τ : List (Event O)) (m0 : Has w a0) (p : Place) (k : Completion → Prog O I) (m : Ending) (v : World O) (e : Ending) (y : World O) (o : Ending) → Then R w p k m v e → Then S (lent w a0 τ) p k m y o → Alike w a0 τ v e y o
      then_meet w a0 τ m0 p k None v e y o a b = both_end w a0 τ m0 v e y o None a.0 a.1 b.0 b.1
      then_meet w a0 τ m0 p k (Some r) v e y o a b = follows_meet w a0 τ m0 p k r v e y o a b

      closes_meet : (g : Option (Node O)) (w : World O) (a0 : List (Move O)) (τ : List (Event O)) (m0 : Has w a0) (p : Place) (l : Wrap O) (k : Completion → Prog O I) (m : Ending) (v : World O) (e : Ending) (y : World O) (o : Ending) → Closes R g w p l k m v e → Closes S g (lent w a0 τ) p l k m y o → Alike w a0 τ v e y o
      closes_meet g w a0 τ m0 p l k None v e y o a b = both_end w a0 τ m0 v e y o None a.0 a.1 b.0 b.1
      closes_meet g w a0 τ m0 p l k (Some r) v e y o (u, s, a) (z, t, b) =
          let q : a0 ≡ asked p (closes l g (w.tree p)) a0 = sym (closes_silent p l g (w.tree p) a0) in
          after_step w a0 τ p (closes l g (w.tree p)) u z a0 q s t v e y o (follows_meet u a0 z.tape (left_step w a0 p (closes l g (w.tree p)) u a0 q s m0) p k r v e y o a (subst (λ m. Follows S m p k r y o) (lent_step w a0 τ p (closes l g (w.tree p)) u z a0 q s t) b))

      hears_meet : (w : World O) (a0 : List (Move O)) (τ : List (Event O)) (m0 : Has w a0) (p : Place) (k : Said → Prog O I) (a : Answer) (v : World O) (e : Ending) (y : World O) (o : Ending) → Hears R w p k a v e → Hears S (lent w a0 τ) p k a y o → Alike w a0 τ v e y o
      hears_meet w a0 τ m0 p k (Heard x) v e y o a b = det w a0 τ m0 p (k (Told x)) v e y o a b
      hears_meet w a0 τ m0 p k Nobody v e y o a b = det w a0 τ m0 p (k Missed) v e y o a b
      hears_meet w a0 τ m0 p k (Replied (Completed c)) v e y o a b = det w a0 τ m0 p (k (Finished c)) v e y o a b
      hears_meet w a0 τ m0 p k (Replied (Stop n m)) v e y o a b = both_end w a0 τ m0 v e y o (Some (Stop n m)) a.0 a.1 b.0 b.1
      hears_meet w a0 τ m0 p k (Replied (Exit n)) v e y o a b = both_end w a0 τ m0 v e y o (Some (Exit n)) a.0 a.1 b.0 b.1
      hears_meet w a0 τ m0 p k (Replied (Cut c)) v e y o a b = both_end w a0 τ m0 v e y o (Some (Cut c)) a.0 a.1 b.0 b.1

      answered_meet : (w : World O) (a0 : List (Move O)) (τ : List (Event O)) (m0 : Has w a0) (p : Place) (h : Height) (f : Said → Prog O I) (a : Answer) (a1 : List (Move O)) → a0 ≡ asked p (Back h a) a1 → (v : World O) (e : Ending) (y : World O) (o : Ending) → Answered R w p h f a v e → Answered S (lent w a0 τ) p h f a y o → Alike w a0 τ v e y o
      answered_meet w a0 τ m0 p h f a a1 q v e y o (u, s, b) (z, t, c) =
          after_step w a0 τ p (Back h a) u z a1 q s t v e y o (hears_meet u a1 z.tape (left_step w a0 p (Back h a) u a1 q s m0) p f a v e y o b (subst (λ m. Hears S m p f a y o) (lent_step w a0 τ p (Back h a) u z a1 q s t) c))

      returns_meet : (d : ℕ) (w : World O) (a0 : List (Move O)) (τ : List (Event O)) (m0 : Has w a0) (p : Place) (h : Height) (down : Path) (f : Said → Prog O I) (c : Place) → rise_to h p ≡ Some c → (m : Ending) (v : World O) (e : Ending) (y : World O) (o : Ending) → Returns R d w p h down f m v e → Returns S d (lent w a0 τ) p h down f m y o → Alike w a0 τ v e y o
      returns_meet d w a0 τ m0 p h down f c g None v e y o a b = both_end w a0 τ m0 v e y o None a.0 a.1 b.0 b.1
      returns_meet d w a0 τ m0 p h down f c g (Some r) v e y o a b = answered_meet w a0 τ m0 p h f (Replied (carried (gone d w.tree p) h p down r)) a0 (sym (back_silent prog p c h (Replied (carried (gone d w.tree p) h p down r)) g a0)) v e y o a b

      leaves_meet : (w : World O) (a0 : List (Move O)) (τ : List (Event O)) (m0 : Has w a0) (g : Height) (t : Place) (m : Ending) (v y : World O) → Leaves w g t m v → Leaves (lent w a0 τ) g t m y → Alike w a0 τ v m y m
      leaves_meet w a0 τ m0 g t None v y a b = at_once w a0 τ m0 v None y None a b refl
      leaves_meet w a0 τ m0 g t (Some r) v y a b = step_end w a0 τ m0 t (Done g r) v y a0 refl a b v (Some r) y (Some r) (Some r) refl refl refl refl

      visits_meet : (w : World O) (a0 : List (Move O)) (τ : List (Event O)) (m0 : Has w a0) (g : Height) (t : Place) (i : Entry) (a1 : List (Move O)) → a0 ≡ asked t (In g i) a1 → (v : World O) (e : Ending) (y : World O) (o : Ending) → Visits prog R w g t i v e → Visits prog S (lent w a0 τ) g t i y o → Alike w a0 τ v e y o
      visits_meet w a0 τ m0 g t i a1 q v e y o a b =
          let inner : Alike w a0 τ a.left e b.left o = step_goes_on w a0 τ m0 t t (In g i) a1 q a.entered b.entered (prog.entry i) a.left e b.left o a.entry b.entry a.run b.run in
          after_run w a0 τ a.left e b.left o inner v e y o (λ n.
          let out : Leaves (lent a.left n.left n.rest) g t e y = subst (λ l. Leaves (lent a.left n.left n.rest) g t l y) n.ending (subst (λ l. Leaves l g t o y) n.world b.leaving) in
          subst (λ l. Alike a.left n.left n.rest v e y l) (sym n.ending) (leaves_meet a.left n.left n.rest n.moves g t e v y a.leaving out))

      reaches_meet : (w : World O) (a0 : List (Move O)) (τ : List (Event O)) (m0 : Has w a0) (p : Place) (h : Height) (down : Path) (i : Entry) (lost : Completion) (f : Said → Prog O I) (c : Place) → rise_to h p ≡ Some c → (t : Option Place) → reached w.tree c down ≡ t → (v : World O) (e : Ending) (y : World O) (o : Ending) → Reaches prog R w p h down i lost f t v e → Reaches prog S (lent w a0 τ) p h down i lost f t y o → Alike w a0 τ v e y o
      reaches_meet w a0 τ m0 p h down i lost f c g None j v e y o a b = answered_meet w a0 τ m0 p h f (Replied (Completed lost)) a0 (sym (back_silent prog p c h (Replied (Completed lost)) g a0)) v e y o a b
      reaches_meet w a0 τ m0 p h down i lost f c g (Some t) j v e y o (u, m, a, a2) (z, n, b, b2) =
          let vis : Alike w a0 τ u m z n = visits_meet w a0 τ m0 (Some (length down)) t i a0 (in_silent prog w c t down i j a0) u m z n a b in
          after_run w a0 τ u m z n vis v e y o (λ d. returns_meet (depth_of (w.tree p)) u d.left d.rest d.moves p h down f c g m v e y o a2
          (subst (λ l. Returns S (depth_of (w.tree p)) (lent u d.left d.rest) p h down f l y o) d.ending (subst (λ l. Returns S (depth_of (w.tree p)) l p h down f n y o) d.world b2)))

      calls_meet : (w : World O) (a0 : List (Move O)) (τ : List (Event O)) (m0 : Has w a0) (p : Place) (h : Height) (down : Path) (i : Entry) (lost : Completion) (f : Said → Prog O I) (a : Option Place) → rise_to h p ≡ a → (v : World O) (e : Ending) (y : World O) (o : Ending) → Calls prog R w p h down i lost f a v e → Calls prog S (lent w a0 τ) p h down i lost f a y o → Alike w a0 τ v e y o
      calls_meet w a0 τ m0 p h down i lost f None g v e y o a b = det w a0 τ m0 p (wait (Some (h, i, depth_of (w.tree p))) (or_lost lost f)) v e y o a b
      calls_meet w a0 τ m0 p h down i lost f (Some t) g v e y o a b = reaches_meet w a0 τ m0 p h down i lost f t g (reached w.tree t down) refl v e y o a b

      -- what comes next where a move is waited for
      exits_at : (w : World O) (p : Place) (s : Wait) (n : ℤ) (ms : List (Move O)) (v : World O) (e : Ending) → rise_to (height_of s) p ≡ None → Exits w p s n ms v e → AtMove w.tape
      exits_at w p s n ms v e f a = by ms a
        where
          halt : Halts w v e → AtMove w.tape
          halt x = subst AtMove (sym x.tape) tt

          back : (l : Bool) → Exiting w p s n l v e → AtMove w.tape
          back false x = halt x
          back true x = reads_at w v p (Back (height_of s) (Replied (Exit n))) x.0 (λ ms. (Come (Replied (Exit n)), sym (back_reads prog p (height_of s) (Replied (Exit n)) f ms)))

          by : (ms : List (Move O)) → Exits w p s n ms v e → AtMove w.tape
          by [] x = halt x
          by (Come y ∷ ms) x = back (ends_call s n y) x
          by (Born o l ∷ ms) x = halt x
          by (Fall ∷ ms) x = halt x
          by (Enter u i ∷ ms) x = halt x

      enters_at : (Q : Run O I) (w : World O) (p : Place) (s : Wait) (f : Said → Prog O I) (t : Path) (i : Entry) (n : Option (Node O)) (v : World O) (e : Ending) → Enters prog Q w p s f t i n v e → AtMove w.tape
      enters_at Q w p s f t i None v e (u, a, b) = reads_at w u [] (Unfound t i (prog.lost t)) a (λ ms. (Enter t i, refl))
      enters_at Q w p s f t i (Some n) v e (u, m, a, b) = reads_at w a.entered t (In None i) a.entry (λ ms. (Enter t i, refl))

      moves_at : (Q : Run O I) (w : World O) (p : Place) (s : Wait) (f : Said → Prog O I) (m : Move O) (v : World O) (e : Ending) → rise_to (height_of s) p ≡ None → Moves prog Q w p s f m v e → AtMove w.tape
      moves_at Q w p s f (Come a) v e g (u, t, b) = reads_at w u p (Back (height_of s) a) t (λ ms. (Come a, sym (back_reads prog p (height_of s) a g ms)))
      moves_at Q w p s f (Born x l) v e g (u, t, b) = reads_at w u [] (Made x l) t (λ ms. (Born x l, refl))
      moves_at Q w p s f Fall v e g (u, t, b) = reads_at w u [] Dropped t (λ ms. (Fall, refl))
      moves_at Q w p s f (Enter t i) v e g a = enters_at Q w p s f t i (w.tree t) v e a

      fitting_at : (Q : Run O I) (w : World O) (p : Place) (s : Wait) (f : Said → Prog O I) (l : Bool) (m : Move O) (v : World O) (e : Ending) → rise_to (height_of s) p ≡ None → Fitting prog Q w p s f l m v e → AtMove w.tape
      fitting_at Q w p s f false m v e g a = subst AtMove (sym a.tape) tt
      fitting_at Q w p s f true m v e g a = moves_at Q w p s f m v e g a

      waits_at : (Q : Run O I) (w : World O) (p : Place) (s : Wait) (f : Said → Prog O I) (ms : List (Move O)) (v : World O) (e : Ending) → rise_to (height_of s) p ≡ None → Waits prog Q w p s f ms v e → AtMove w.tape
      waits_at Q w p s f [] v e g a = subst AtMove (sym a.tape) tt
      waits_at Q w p s f (m ∷ ms) v e g a = fitting_at Q w p s f (fits w.tree p s m) m v e g a

      exits_meet : (w : World O) (a0 : List (Move O)) (τ : List (Event O)) (m0 : Has w a0) (p : Place) (s : Wait) (n : ℤ) → rise_to (height_of s) p ≡ None → (v : World O) (e : Ending) (y : World O) (o : Ending) → Exits w p s n w.moves v e → Exits (lent w a0 τ) p s n (a0 ++ y0) y o → Alike w a0 τ v e y o
      exits_meet w [] τ m0 p s n f v e y o a b = used_up w τ v e y o (exits_at w p s n w.moves v e f a) (exits_at (lent w [] τ) p s n y0 y o f b)
      exits_meet w (Come x ∷ a1) τ m0 p s n f v e y o a b = by (ends_call s n x) (subst (λ l. Exits w p s n l v e) m0 a) b
        where
          by : (l : Bool) → Exiting w p s n l v e → Exiting (lent w (Come x ∷ a1) τ) p s n l y o → Alike w (Come x ∷ a1) τ v e y o
          by false a b = both_halt w (Come x ∷ a1) τ m0 v e y o a b
          by true (s1, g) (s2, h) =
              let r : Come (Replied (Exit n)) ∷ v.moves ≡ Come x ∷ (a1 ++ b0) = back_reads prog p (height_of s) (Replied (Exit n)) f v.moves ∙ sym s1.moves ∙ m0 in
              let c : Come x ≡ Come (Replied (Exit n)) = cc in
              step_end w (Come x ∷ a1) τ m0 p (Back (height_of s) (Replied (Exit n))) v y a1 (ap (λ l. l ∷ a1) c ∙ back_reads prog p (height_of s) (Replied (Exit n)) f a1) s1 s2 v e y o (Some (Exit n)) refl g refl h
      exits_meet w (Born x l ∷ a1) τ m0 p s n f v e y o a b = both_halt w (Born x l ∷ a1) τ m0 v e y o (subst (λ l. Exits w p s n l v e) m0 a) b
      exits_meet w (Fall ∷ a1) τ m0 p s n f v e y o a b = both_halt w (Fall ∷ a1) τ m0 v e y o (subst (λ l. Exits w p s n l v e) m0 a) b
      exits_meet w (Enter t i ∷ a1) τ m0 p s n f v e y o a b = both_halt w (Enter t i ∷ a1) τ m0 v e y o (subst (λ l. Exits w p s n l v e) m0 a) b

      stays_meet : (w : World O) (a0 : List (Move O)) (τ : List (Event O)) (m0 : Has w a0) (p : Place) (s : Wait) (f : Said → Prog O I) → rise_to (height_of s) p ≡ None → (m : Ending) (v : World O) (e : Ending) (y : World O) (o : Ending) → Stays R w p s f m v e → Stays S (lent w a0 τ) p s f m y o → Alike w a0 τ v e y o
      stays_meet w a0 τ m0 p s f g None v e y o a b = both_end w a0 τ m0 v e y o None a.0 a.1 b.0 b.1
      stays_meet w a0 τ m0 p s f g (Some (Exit n)) v e y o a b = exits_meet w a0 τ m0 p s n g v e y o a b
      stays_meet w a0 τ m0 p s f g (Some (Completed c)) v e y o a b = det w a0 τ m0 p (wait s f) v e y o a b
      stays_meet w a0 τ m0 p s f g (Some (Stop n m)) v e y o a b = det w a0 τ m0 p (wait s f) v e y o a b
      stays_meet w a0 τ m0 p s f g (Some (Cut c)) v e y o a b = det w a0 τ m0 p (wait s f) v e y o a b

      enters_meet : (w : World O) (a0 : List (Move O)) (τ : List (Event O)) (m0 : Has w a0) (p : Place) (s : Wait) (f : Said → Prog O I) → rise_to (height_of s) p ≡ None → (t : Path) (i : Entry) (x : Option (Node O)) (a1 : List (Move O)) → a0 ≡ Enter t i ∷ a1 → (v : World O) (e : Ending) (y : World O) (o : Ending) → Enters prog R w p s f t i x v e → Enters prog S (lent w a0 τ) p s f t i x y o → Alike w a0 τ v e y o
      enters_meet w a0 τ m0 p s f g t i None a1 q v e y o (u, t2, a) (z, t3, b) = step_goes_on w a0 τ m0 p [] (Unfound t i (prog.lost t)) a1 q u z (wait s f) v e y o t2 t3 a b
      enters_meet w a0 τ m0 p s f g t i (Some x) a1 q v e y o (u, m, a, a2) (z, n, b, b2) =
          let vis : Alike w a0 τ u m z n = visits_meet w a0 τ m0 None t i a1 q u m z n a b in
          after_run w a0 τ u m z n vis v e y o (λ d. stays_meet u d.left d.rest d.moves p s f g m v e y o a2
          (subst (λ l. Stays S (lent u d.left d.rest) p s f l y o) d.ending (subst (λ l. Stays S l p s f n y o) d.world b2)))

      moves_meet : (w : World O) (a0 : List (Move O)) (τ : List (Event O)) (m0 : Has w a0) (p : Place) (s : Wait) (f : Said → Prog O I) → rise_to (height_of s) p ≡ None → (m : Move O) (a1 : List (Move O)) → a0 ≡ m ∷ a1 → (v : World O) (e : Ending) (y : World O) (o : Ending) → Moves prog R w p s f m v e → Moves prog S (lent w a0 τ) p s f m y o → Alike w a0 τ v e y o
      moves_meet w a0 τ m0 p s f g (Come a) a1 q v e y o b c = answered_meet w a0 τ m0 p (height_of s) f a a1 (q ∙ back_reads prog p (height_of s) a g a1) v e y o b c
      moves_meet w a0 τ m0 p s f g (Born x l) a1 q v e y o (u, t, a) (z, t2, b) = step_goes_on w a0 τ m0 p [] (Made x l) a1 q u z (wait s f) v e y o t t2 a b
      moves_meet w a0 τ m0 p s f g Fall a1 q v e y o (u, t, a) (z, t2, b) = step_goes_on w a0 τ m0 p [] Dropped a1 q u z (wait s f) v e y o t t2 a b
      moves_meet w a0 τ m0 p s f g (Enter t i) a1 q v e y o a b = enters_meet w a0 τ m0 p s f g t i (w.tree t) a1 q v e y o a b

      fitting_meet : (w : World O) (a0 : List (Move O)) (τ : List (Event O)) (m0 : Has w a0) (p : Place) (s : Wait) (f : Said → Prog O I) → rise_to (height_of s) p ≡ None → (l : Bool) (m : Move O) (a1 : List (Move O)) → a0 ≡ m ∷ a1 → (v : World O) (e : Ending) (y : World O) (o : Ending) → Fitting prog R w p s f l m v e → Fitting prog S (lent w a0 τ) p s f l m y o → Alike w a0 τ v e y o
      fitting_meet w a0 τ m0 p s f g false m a1 q v e y o a b = both_halt w a0 τ m0 v e y o a b
      fitting_meet w a0 τ m0 p s f g true m a1 q v e y o a b = moves_meet w a0 τ m0 p s f g m a1 q v e y o a b

      waits_meet : (w : World O) (a0 : List (Move O)) (τ : List (Event O)) (m0 : Has w a0) (p : Place) (s : Wait) (f : Said → Prog O I) → rise_to (height_of s) p ≡ None → (v : World O) (e : Ending) (y : World O) (o : Ending) → Waits prog R w p s f w.moves v e → Waits prog S (lent w a0 τ) p s f (a0 ++ y0) y o → Alike w a0 τ v e y o
      waits_meet w [] τ m0 p s f g v e y o a b = used_up w τ v e y o (waits_at R w p s f w.moves v e g a) (waits_at S (lent w [] τ) p s f y0 y o g b)
      waits_meet w (m ∷ a1) τ m0 p s f g v e y o a b = fitting_meet w (m ∷ a1) τ m0 p s f g (fits w.tree p s m) m a1 refl v e y o (subst (λ l. Waits prog R w p s f l v e) m0 a) b

      acted_meet : (w u : World O) (a0 : List (Move O)) (τ : List (Event O)) (m0 : Has u a0) (p : Place) (f : Tree O → Prog O I) (x : Next) (v : World O) (e : Ending) (y : World O) (o : Ending) → Acted R w u p f x v e → Acted S w (lent u a0 τ) p f x y o → Alike u a0 τ v e y o
      acted_meet w u a0 τ m0 p f (Off r) v e y o a b = both_end u a0 τ m0 v e y o (Some r) a.0 a.1 b.0 b.1
      acted_meet w u a0 τ m0 p f On v e y o a b = det u a0 τ m0 p (f (at w.tree p)) v e y o a b
      acted_meet w u a0 τ m0 p f TooDeep v e y o a b = det u a0 τ m0 p (f (at w.tree p)) v e y o a b

      acts_meet : (w : World O) (a0 : List (Move O)) (τ : List (Event O)) (m0 : Has w a0) (p : Place) (x : Deed O) → Silent (spot p x.0) x.1 → (f : Tree O → Prog O I) (v : World O) (e : Ending) (y : World O) (o : Ending) → Acts R w p (Some x) f v e → Acts S (lent w a0 τ) p (Some x) f y o → Alike w a0 τ v e y o
      acts_meet w a0 τ m0 p x sil f v e y o (u, s, a) (z, t, b) =
          let q : a0 ≡ asked (spot p x.0) x.1 a0 = sym (sil a0) in
          after_step w a0 τ (spot p x.0) x.1 u z a0 q s t v e y o (acted_meet w u a0 z.tape (left_step w a0 (spot p x.0) x.1 u a0 q s m0) p f x.2 v e y o a (subst (λ m. Acted S w m p f x.2 y o) (lent_step w a0 τ (spot p x.0) x.1 u z a0 q s t) (retaped x.2 b)))
        where
          retaped : (n : Next) → Acted S (lent w a0 τ) z p f n y o → Acted S w z p f n y o
          retaped (Off r) b = b
          retaped On b = b
          retaped TooDeep b = b

      opened_meet : (w : World O) (a0 : List (Move O)) (τ : List (Event O)) (m0 : Has w a0) (p : Place) (l : Wrap O) (i : I) (f : Completion → Prog O I) (x : Next) (v : World O) (e : Ending) (y : World O) (o : Ending) → Opened prog R w p l i f x v e → Opened prog S (lent w a0 τ) p l i f x y o → Alike w a0 τ v e y o
      opened_meet w a0 τ m0 p l i f (Off r) v e y o a b = both_end w a0 τ m0 v e y o (Some r) a.0 a.1 b.0 b.1
      opened_meet w a0 τ m0 p l i f TooDeep v e y o a b = det w a0 τ m0 p (f (refusal (Full Depth))) v e y o a b
      opened_meet w a0 τ m0 p l i f On v e y o (u, m, a, a2) (z, n, b, b2) =
          let r : Alike w a0 τ u m z n = det w a0 τ m0 p (prog.program i) u m z n a b in
          after_run w a0 τ u m z n r v e y o (λ g. closes_meet (w.tree p) u g.left g.rest g.moves p l f m v e y o a2 (subst (λ j. Closes S (w.tree p) (lent u g.left g.rest) p l f j y o) g.ending (subst (λ j. Closes S (w.tree p) j p l f n y o) g.world b2)))

      opens_meet : (w : World O) (a0 : List (Move O)) (τ : List (Event O)) (m0 : Has w a0) (p : Place) (x : Deed O) → Silent (spot p x.0) x.1 → (l : Wrap O) (i : I) (f : Completion → Prog O I) (v : World O) (e : Ending) (y : World O) (o : Ending) → Opens prog R w p (Some x) l i f v e → Opens prog S (lent w a0 τ) p (Some x) l i f y o → Alike w a0 τ v e y o
      opens_meet w a0 τ m0 p x sil l i f v e y o (u, s, a) (z, t, b) =
          let q : a0 ≡ asked (spot p x.0) x.1 a0 = sym (sil a0) in
          after_step w a0 τ (spot p x.0) x.1 u z a0 q s t v e y o (opened_meet u a0 z.tape (left_step w a0 (spot p x.0) x.1 u a0 q s m0) p l i f x.2 v e y o a (subst (λ m. Opened prog S m p l i f x.2 y o) (lent_step w a0 τ (spot p x.0) x.1 u z a0 q s t) b))

      -- an act: it comes to the same, or the first is refused
      act_meets : (w : World O) (a0 : List (Move O)) (τ : List (Event O)) (m0 : Has w a0) (p : Place) (d : Act O) (f : Tree O → Prog O I) (v : World O) (e : Ending) (y : World O) (o : Ending) → Acts R w p (decide d w.tree p w.grants) f v e → Acts S (lent w a0 τ) p (decide d w.tree p (lent w a0 τ).grants) f y o → Alike w a0 τ v e y o
      act_meets w a0 τ m0 p d f v e y o a b = by (decide d w.tree p w.grants) refl a
        where
          on : (x : Deed O) → decide d w.tree p w.grants ≡ Some x → (u : World O) → Step w (spot p x.0) x.1 u → Acted R w u p f x.2 v e → IsNoCut x.2 ⊎ ((c : Cause) × (x.2 ≡ Off (Cut c))) → Alike w a0 τ v e y o
          on x g u s a2 (inr c) = one_refused w u a0 τ (spot p x.0) x.1 v e y o s (decide_refused d w.tree p w.grants x c.0 g c.1)
          on x g u s a2 (inl n) =
              let h : decide d w.tree p (lent w a0 τ).grants ≡ Some x = ap (λ t. decide d w.tree p (Budget (steps_of t + k))) s.tape ∙ decide_budget d w.tree p w.grants x (steps_of u.tape) k g (decide_uncut d w.tree p w.grants x g n) in
              acts_meet w a0 τ m0 p x (act_silent d w.tree p w.grants x g) f v e y o (u, s, a2) (subst (λ l. Acts S (lent w a0 τ) p l f y o) h b)

          by : (x : Option (Deed O)) → decide d w.tree p w.grants ≡ x → Acts R w p x f v e → Alike w a0 τ v e y o
          by None g a2 = one_halts w a0 τ v e y o a2.tape (decide_listed d w.tree p w.grants g)
          by (Some x) g (u, s, a2) = on x g u s a2 (cut_or x.2)

      open_meets : (w : World O) (a0 : List (Move O)) (τ : List (Event O)) (m0 : Has w a0) (p : Place) (l : Wrap O) (i : I) (f : Completion → Prog O I) (v : World O) (e : Ending) (y : World O) (o : Ending) → Opens prog R w p (opens l w.tree p w.grants) l i f v e → Opens prog S (lent w a0 τ) p (opens l w.tree p (lent w a0 τ).grants) l i f y o → Alike w a0 τ v e y o
      open_meets w a0 τ m0 p l i f v e y o a b = by (opens l w.tree p w.grants) refl a
        where
          on : (x : Deed O) → opens l w.tree p w.grants ≡ Some x → (u : World O) → Step w (spot p x.0) x.1 u → Opened prog R u p l i f x.2 v e → IsNoCut x.2 ⊎ ((c : Cause) × (x.2 ≡ Off (Cut c))) → Alike w a0 τ v e y o
          on x g u s a2 (inr c) = one_refused w u a0 τ (spot p x.0) x.1 v e y o s (opens_refused l w.tree p w.grants x c.0 g c.1)
          on x g u s a2 (inl n) =
              let h : opens l w.tree p (lent w a0 τ).grants ≡ Some x = ap (λ t. opens l w.tree p (Budget (steps_of t + k))) s.tape ∙ opens_budget l w.tree p w.grants x (steps_of u.tape) k g (opens_uncut l w.tree p w.grants x g n) in
              opens_meet w a0 τ m0 p x (opens_silent l w.tree p w.grants x g) l i f v e y o (u, s, a2) (subst (λ j. Opens prog S (lent w a0 τ) p j l i f y o) h b)

          by : (x : Option (Deed O)) → opens l w.tree p w.grants ≡ x → Opens prog R w p x l i f v e → Alike w a0 τ v e y o
          by None g a2 = one_halts w a0 τ v e y o a2.tape (opens_listed l w.tree p w.grants g)
          by (Some x) g (u, s, a2) = on x g u s a2 (cut_or x.2)

      pub unrolled_meet : (w : World O) (a0 : List (Move O)) (τ : List (Event O)) (m0 : Has w a0) (p : Place) (x : Prog O I) (v : World O) (e : Ending) (y : World O) (o : Ending) → Unrolled prog R w p x v e → Unrolled prog S (lent w a0 τ) p x y o → Alike w a0 τ v e y o
      unrolled_meet w a0 τ m0 p (done c) v e y o a b = both_end w a0 τ m0 v e y o (Some (Completed c)) a.0 a.1 b.0 b.1
      unrolled_meet w a0 τ m0 p (exit n) v e y o a b = both_end w a0 τ m0 v e y o (Some (Exit n)) a.0 a.1 b.0 b.1
      unrolled_meet w a0 τ m0 p (act d f) v e y o a b = act_meets w a0 τ m0 p d f v e y o a b
      unrolled_meet w a0 τ m0 p (go i k) v e y o (u, m, a, a2) (z, n, b, b2) =
          let r : Alike w a0 τ u m z n = det w a0 τ m0 p (prog.program i) u m z n a b in
          after_run w a0 τ u m z n r v e y o (λ g. then_meet u g.left g.rest g.moves p k m v e y o a2 (subst (λ l. Then S (lent u g.left g.rest) p k l y o) g.ending (subst (λ l. Then S l p k n y o) g.world b2)))
      unrolled_meet w a0 τ m0 p (inside l i f) v e y o a b = open_meets w a0 τ m0 p l i f v e y o a b
      unrolled_meet w a0 τ m0 p (call h down i lost k) v e y o (u, s, a) (z, t, b) =
          after_step w a0 τ p (Out h down i) u z a0 refl s t v e y o (calls_meet u a0 z.tape (left_step w a0 p (Out h down i) u a0 refl s m0) p h down i lost k (rise_to h p) refl v e y o a (subst (λ m. Calls prog S m p h down i lost k (rise_to h p) y o) (lent_step w a0 τ p (Out h down i) u z a0 refl s t) b))
      unrolled_meet w a0 τ m0 p (wait s k) v e y o (f, a) (g, b) = waits_meet w a0 τ m0 p s k f v e y o a b

    meet_in : (prog : Table O I) (n : ℕ) → Meets (RunsIn prog n) (Runs prog)
    meet_in prog zero w a0 τ m0 p x v e y o a b = absurd a
    meet_in prog (suc n) w a0 τ m0 p x v e y o a b = unrolled_meet prog (RunsIn prog n) (Runs prog) (meet_in prog n) w a0 τ m0 p x v e y o a (unroll prog (lent w a0 τ) p x y o b)

    pub runs_meet : (prog : Table O I) → Meets (Runs prog) (Runs prog)
    runs_meet prog w a0 τ m0 p x v e y o (n, a) b = meet_in prog n w a0 τ m0 p x v e y o a b
