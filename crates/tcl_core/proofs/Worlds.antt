-- Two worlds in which a subtree is the same and is first handed the same.
use Rattle.std.proofs.Common.{sym, ◌≡◌, inl, inr, ℕ, zero, suc, ℤ, ◌+◌, ◌-◌, Option, List, [], ◌∷◌, ◌++◌, Some, None, refl, ◌∙◌, ap, subst, arith, append-nil}
use Rattle.tcl_core.specs.Paths.{Path, Place, rise_to}
use Rattle.tcl_core.specs.Endings.{Reply}
use Rattle.tcl_core.specs.Endings.Reply.{Completed, Stop, Exit, Cut}
use Rattle.tcl_core.specs.Entries.{Entry}
use Rattle.tcl_core.specs.Trees.{What, Event, Move, at, Node}
use Rattle.tcl_core.specs.Trees.Grants.{Budget}
use Rattle.tcl_core.specs.Trees.What.{Made, Dropped, In, Done, Unfound}
use Rattle.tcl_core.specs.Trees.Move.{Born, Fall, Enter, Come}
use Rattle.tcl_core.specs.Programs.{Table}
use Rattle.tcl_core.specs.Programs.Prog.{wait}
use Rattle.tcl_core.specs.Runs.{World, Ending, Halts, Exits, Stays, Visits, Waits, Runs, RunsIn, Enters}
use Rattle.tcl_core.specs.Rules.{Derives}
use Rattle.tcl_core.specs.Rules.Derives.{unanswered, unfound}
use Rattle.tcl_core.specs.Views.{moves_of, steps_of, view, inside_of}
use Rattle.tcl_core.specs.Lives
use Rattle.tcl_core.specs.Lives.{Lives, Outcome, Reacts, AllRead, alone, begun, begun_at, ended, ended_at, idle, never, outs_of}
use Rattle.tcl_core.specs.Lives.Reacts.{over}
use Rattle.tcl_core.proofs.Balance
use Rattle.tcl_core.specs.Lives.Outcome.{Finished}
use Rattle.tcl_core.specs.Lives.{outcome_of}
use Rattle.tcl_core.specs.Laws.{AllAgree, TwoWorlds, Isolation, AtMove, Lasts, IsUnended}
use Rattle.tcl_core.proofs.Counts.{standing}
use Rattle.tcl_core.specs.Lives.{IsUncut}
use Rattle.tcl_core.proofs.Unended.{uncut}
use Rattle.tcl_core.proofs.RuleLaws.{Ruled, derived_runs, runs_derived, enter_rule}
use Rattle.tcl_core.proofs.Budgets.{budgeted, step_budget}
use Rattle.tcl_core.proofs.Balance.{in_at, done_at, ins, dones, Owes, owes, visit_owes, view_ins, view_dones}
use Rattle.tcl_core.proofs.Reacting.{IsHanded, IsLasting, lasting, lasts, no_move, exits_idle, visit_budget, after_visit, balanced_after, never_halts, lift_visits, life_of, kept_step}
use Rattle.tcl_core.proofs.Halts.{halted_tape}
use Rattle.tcl_core.proofs.Parting.{cut, Beyond, Stops, Result, Run_of, part}
use Rattle.tcl_core.proofs.Conclusions.{determinism, lives_within}

abbrev halted : Ending
halted = None

module _ {O : Type 0} where
  exits_still : (u : World O) (n : ℤ) (ms : List (Move O)) (y : World O) → Halts u y None → Exits u [] idle n ms y None
  exits_still u n [] y a = a
  exits_still u n (Come x ∷ ms) y a = a
  exits_still u n (Born o b ∷ ms) y a = a
  exits_still u n (Fall ∷ ms) y a = a
  exits_still u n (Enter t i ∷ ms) y a = a

  at_move : (left : List (Move O)) (rest : List (Event O)) → Beyond left rest → AtMove rest
  at_move left rest (inl e) = subst AtMove (sym e) tt
  at_move left rest (inr e) = e.1

module _ {O : Type 0} where
  pub begun_ins : (τ : List (Event O)) → begun τ ≡ ins [] τ
  begun_ins [] = refl
  begun_ins (ev ∷ τ) = step ev.place ev.what (begun τ) (ins [] τ) (begun_ins τ)
    where
      more : (o : Option Place) (n m : ℕ) → n ≡ m → Lives.one_more o n ≡ Balance.one_more o m
      more None n m e = ap suc e
      more (Some a) n m e = e

      step : (p : Place) (x : What O) (n m : ℕ) → n ≡ m → begun_at p x n ≡ in_at [] p x m
      step p (In h i) n m e = more (rise_to h p) n m e
      step p x n m e = e

  pub ended_dones : (τ : List (Event O)) → ended τ ≡ dones [] τ
  ended_dones [] = refl
  ended_dones (ev ∷ τ) = step ev.place ev.what (ended τ) (dones [] τ) (ended_dones τ)
    where
      more : (o : Option Place) (n m : ℕ) → n ≡ m → Lives.one_more o n ≡ Balance.one_more o m
      more None n m e = ap suc e
      more (Some a) n m e = e

      step : (p : Place) (x : What O) (n m : ℕ) → n ≡ m → ended_at p x n ≡ done_at [] p x m
      step p (Done h r) n m e = more (rise_to h p) n m e
      step p x n m e = e

  all_read : (x : Outcome) (ms : List (Move O)) → ms ≡ [] → AllRead x ms
  all_read Outcome.Finished ms e = e
  all_read Outcome.Waiting ms e = e
  all_read Outcome.Ended ms e = e
  all_read (Outcome.Exited n) ms e = tt
  all_read Outcome.Spent ms e = e
  all_read Outcome.Misfit ms e = e

module _ {O I : Type 0} (prog : Table O I) (k : ℕ) where
  abbrev bud : World O → World O
  bud w = budgeted k w

  abbrev Life_of : World O → World O → Type 0
  Life_of z y = Derives prog (bud z) [] (wait idle never) (bud y) None

  abbrev Living : ℕ → Type 0
  Living n = (z y : World O) → IsHanded z → IsLasting z.tape → IsUncut z.tape → ins [] z.tape ≡ dones [] z.tape → y.tape ≡ [] → RunsIn prog n z [] (wait idle never) y None → Life_of z y

  ruled_visit : (z : World O) (t : Path) (i : Entry) (u : World O) (r : Reply) → Visits prog (Runs prog) z None t i u (Some r) → Visits prog (Ruled prog) z None t i u (Some r)
  ruled_visit z t i u r a = record { node = a.node; stands = a.stands; entered = a.entered; left = a.left; entry = a.entry; run = runs_derived prog a.entered t (prog.entry i) a.left (Some r) a.run; leaving = a.leaving }

  ended_life : (z y : World O) → IsHanded z → Halts z y None → Life_of z y
  ended_life z y a h = subst (λ u. Derives prog (bud z) [] (wait idle never) (bud u) None) (sym h.same) (unanswered (bud z) [] idle never refl (a ∙ ap moves_of h.tape) h.tape)

  goes_on : (n : ℕ) → Living n → (z u y : World O) (t : Path) (i : Entry) (r : Reply) → IsHanded z → IsLasting z.tape → IsUncut z.tape → ins [] z.tape ≡ dones [] z.tape → y.tape ≡ [] →
      Visits prog (Runs prog) z None t i u (Some r) → Stays (RunsIn prog n) u [] idle never (Some r) y None → Life_of z y
  goes_on n ih z u y t i (Completed c) a b l d f v s =
      let j = after_visit prog k z t i u (Completed c) (outcome_of z.tape Finished) refl a b l v in
      enter_rule prog (bud z) [] idle never t i (bud u) (Some (Completed c)) (bud y) None refl (ruled_visit (bud z) t i (bud u) (Completed c) (visit_budget prog k z t i u (Completed c) l v)) (ih u y j.0 j.1 j.2 (balanced_after prog k z t i u (Completed c) v d) f s)
  goes_on n ih z u y t i (Stop q m) a b l d f v s =
      let j = after_visit prog k z t i u (Stop q m) (outcome_of z.tape Finished) refl a b l v in
      enter_rule prog (bud z) [] idle never t i (bud u) (Some (Stop q m)) (bud y) None refl (ruled_visit (bud z) t i (bud u) (Stop q m) (visit_budget prog k z t i u (Stop q m) l v)) (ih u y j.0 j.1 j.2 (balanced_after prog k z t i u (Stop q m) v d) f s)
  goes_on n ih z u y t i (Exit q) a b l d f v s =
      let h : Halts u y None = exits_idle u q u.moves y s in
      let h2 : Halts (bud u) (bud y) None = record { tape = h.tape; same = ap (budgeted k) h.same; ending = refl } in
      enter_rule prog (bud z) [] idle never t i (bud u) (Some (Exit q)) (bud y) None refl (ruled_visit (bud z) t i (bud u) (Exit q) (visit_budget prog k z t i u (Exit q) l v)) (exits_still (bud u) q u.moves (bud y) h2)
  goes_on n ih z u y t i (Cut q) a b l d f v s =
      let j = after_visit prog k z t i u (Cut q) (outcome_of z.tape Finished) refl a b l v in
      absurd (j.4 refl)

  enters_next : (n : ℕ) → Living n → (z y : World O) → IsHanded z → IsLasting z.tape → IsUncut z.tape → ins [] z.tape ≡ dones [] z.tape → y.tape ≡ [] → (t : Path) (i : Entry) (x : Option (Node O)) → z.tree t ≡ x → Enters prog (RunsIn prog n) z [] idle never t i x y None → Life_of z y
  enters_next n ih z y a b l d f t i None g (u, s, h) =
      let j = kept_step (outcome_of z.tape Finished) z [] (Unfound t i (prog.lost t)) u tt s (a, b, l, (Finished, refl)) in
      let still : ins [] u.tape ≡ dones [] u.tape = sym (ap (ins []) s.tape) ∙ d ∙ ap (dones []) s.tape in
      unfound (bud z) [] idle never t i (bud u) (bud y) None refl g (step_budget k z [] (Unfound t i (prog.lost t)) u s) (ih u y j.0 j.1 j.2 still f h)
  enters_next n ih z y a b l d f t i (Some x) g (u, None, v, s) = never_halts prog k z t i u (lift_visits prog k n z t i u None v) d (ap (λ w. w.tape) (sym s.0) ∙ f)
  enters_next n ih z y a b l d f t i (Some x) g (u, Some r, v, s) = goes_on n ih z u y t i r a b l d f (lift_visits prog k n z t i u (Some r) v) s

  living_next : (n : ℕ) → Living n → (z y : World O) → IsHanded z → IsLasting z.tape → IsUncut z.tape → ins [] z.tape ≡ dones [] z.tape → y.tape ≡ [] → (ms : List (Move O)) → z.moves ≡ ms → Waits prog (RunsIn prog n) z [] idle never ms y None → Life_of z y
  living_next n ih z y a b l d f [] q h = ended_life z y a h
  living_next n ih z y a b l d f (Come w ∷ ms) q h = no_move z (Come w) ms a q h.tape
  living_next n ih z y a b l d f (Born o s ∷ ms) q (u, t, h) = lasts z (Made o s) u t b (λ g. absurd (g refl))
  living_next n ih z y a b l d f (Fall ∷ ms) q (u, t, h) = lasts z Dropped u t b (λ g. absurd (g refl))
  living_next n ih z y a b l d f (Enter t i ∷ ms) q h = enters_next n ih z y a b l d f t i (z.tree t) refl h

  pub living : (n : ℕ) → Living n
  living zero z y a b c d f g = absurd g
  living (suc n) z y a b c d f (g, h) = living_next n (living n) z y a b c d f z.moves refl h

module _ {O I : Type 0} where
  -- nothing in it is cut off, and each entry into it comes to its end
  within_uncut : (prog : Table O I) (c : Place) (w v : World O) (t : Path) (i : Entry) (r : Reply) → Visits prog (Runs prog) w None t i v (Some r) → v.moves ≡ [] → v.tape ≡ [] → IsUnended (view c w.tape) → IsUncut (view c w.tape)
  within_uncut prog c w v t i r a e f une =
      let l : Lives prog (inside_of c w) (inside_of c v) None = lives_within prog c w v (life_of prog w v t i r a e f) in
      uncut prog (runs_derived prog (inside_of c w) [] (wait idle never) (inside_of c v) None l) une tt (subst (λ τ. IsUncut (view c τ)) (sym f) tt)

  pub within_done : (prog : Table O I) (c : Place) (w v : World O) (t : Path) (i : Entry) (r : Reply) → Visits prog (Runs prog) w None t i v (Some r) → v.tape ≡ [] → ins [] (view c w.tape) ≡ dones [] (view c w.tape)
  within_done prog c w v t i r a f =
      let o : Owes c w v (Some r) = visit_owes c w a.entered a.left v None t i r a.entry (owes c prog (runs_derived prog a.entered t (prog.entry i) a.left (Some r) a.run)) a.leaving in
      let s : ins c w.tape + dones c v.tape ≡ dones c w.tape + ins c v.tape + o.open_ins = o.sum in
      let n : o.open_ins ≡ 0 = o.none_left r refl in
      let p : ins c v.tape ≡ 0 = ap (ins c) f in
      let q : dones c v.tape ≡ 0 = ap (dones c) f in
      let b : ins c w.tape ≡ dones c w.tape = omega arith in
      view_ins c w.tape ∙ b ∙ sym (view_dones c w.tape)

  -- the life of the subtree at c in an evaluation, under a budget
  life_within : (prog : Table O I) (c : Place) (w v : World O) (t : Path) (i : Entry) (r : Reply) (k : ℕ) → Visits prog (Runs prog) w None t i v (Some r) → v.moves ≡ [] → v.tape ≡ [] → Lasts c w → IsUnended (view c w.tape) →
      Derives prog (budgeted k (inside_of c w)) [] (wait idle never) (budgeted k (inside_of c v)) None
  life_within prog c w v t i r k a e f st une =
      let l : Lives prog (inside_of c w) (inside_of c v) None = lives_within prog c w v (life_of prog w v t i r a e f) in
      living prog k l.0 (inside_of c w) (inside_of c v) refl (lasting c w.tape (standing prog c w [] (wait idle never) v None (life_of prog w v t i r a e f) st f)) (within_uncut prog c w v t i r a e f une)
      (within_done prog c w v t i r a f) (ap (view c) f) l.1

  -- a life that halts, with the first moves alone
  pub first_part : (prog : Table O I) (w v : World O) (a b : List (Move O)) → Derives prog w [] (wait idle never) v None → w.moves ≡ a ++ b → Stops w (Run_of prog w a [] (wait idle never))
  first_part prog w v a b d m = by (part prog d a b m)
    where
      by : Result w v (Run_of prog w a [] (wait idle never)) None b → Stops w (Run_of prog w a [] (wait idle never))
      by (inr g) = g
      by (inl g) = record {
        made = g.made;
        rest = [];
        last = cut v g.left [];
        tape = g.tape ∙ ap (λ τ. g.made ++ τ) (halted_tape prog d refl);
        runs = subst (λ τ. Derives prog (cut w a τ) [] (wait idle never) (cut v g.left []) None) (append-nil g.made) (g.runs []);
        beyond = inl refl;
      }

  pub two_worlds : TwoWorlds O I
  two_worlds prog c w v z y t t2 i i2 r r2 ms a b v1 e1 f1 s1 u1 v2 e2 f2 s2 u2 same m1 m2 =
      let n1 : ℕ = steps_of (view c w.tape) in
      let n2 : ℕ = steps_of (view c z.tape) in
      let d1 : Derives prog (budgeted n2 (inside_of c w)) [] (wait idle never) (budgeted n2 (inside_of c v)) None = life_within prog c w v t i r n2 v1 e1 f1 s1 u1 in
      let d2 : Derives prog (budgeted n1 (inside_of c z)) [] (wait idle never) (budgeted n1 (inside_of c y)) None = life_within prog c z y t2 i2 r2 n1 v2 e2 f2 s2 u2 in
      let g1 : Stops (budgeted n2 (inside_of c w)) (Run_of prog (budgeted n2 (inside_of c w)) ms [] (wait idle never)) = first_part prog (budgeted n2 (inside_of c w)) (budgeted n2 (inside_of c v)) ms a d1 m1 in
      let g2 : Stops (budgeted n1 (inside_of c z)) (Run_of prog (budgeted n1 (inside_of c z)) ms [] (wait idle never)) = first_part prog (budgeted n1 (inside_of c z)) (budgeted n1 (inside_of c y)) ms b d2 m2 in
      let sum : n1 + n2 ≡ n2 + n1 = omega arith in
      let h : (g1.made ≡ g2.made) × (g1.last ≡ g2.last) × (halted ≡ halted) =
      determinism prog (cut (budgeted n2 (inside_of c w)) ms g1.made) (cut (budgeted n1 (inside_of c z)) ms g2.made) [] (wait idle never) g1.last g2.last None None same refl (ap Budget sum)
      (derived_runs prog g1.runs) (derived_runs prog g2.runs) (halted_tape prog g1.runs refl) (halted_tape prog g2.runs refl) in
      (g1.made, g1.rest, g2.rest, g1.tape, g2.tape ∙ ap (λ τ. τ ++ g2.rest) (sym h.0), at_move g1.last.moves g1.rest g1.beyond, at_move g2.last.moves g2.rest g2.beyond)

  pub all_agree : AllAgree O I
  all_agree prog c w v z y t t2 i i2 r r2 v1 e1 f1 s1 u1 v2 e2 f2 s2 u2 same m =
      let n1 : ℕ = steps_of (view c w.tape) in
      let n2 : ℕ = steps_of (view c z.tape) in
      let d1 : Derives prog (budgeted n2 (inside_of c w)) [] (wait idle never) (budgeted n2 (inside_of c v)) None = life_within prog c w v t i r n2 v1 e1 f1 s1 u1 in
      let d2 : Derives prog (budgeted n1 (inside_of c z)) [] (wait idle never) (budgeted n1 (inside_of c y)) None = life_within prog c z y t2 i2 r2 n1 v2 e2 f2 s2 u2 in
      let sum : n1 + n2 ≡ n2 + n1 = omega arith in
      let h : (view c w.tape ≡ view c z.tape) × (budgeted n2 (inside_of c v) ≡ budgeted n1 (inside_of c y)) × (halted ≡ halted) =
      determinism prog (budgeted n2 (inside_of c w)) (budgeted n1 (inside_of c z)) [] (wait idle never) (budgeted n2 (inside_of c v)) (budgeted n1 (inside_of c y)) None None same m (ap Budget sum)
      (derived_runs prog d1) (derived_runs prog d2) (ap (view c) f1) (ap (view c) f2) in
      (h.0, ap outs_of h.0, ap (λ u. u.tree) h.1)

  pub isolation : Isolation O I
  isolation prog c w v t i r m a e f st une le =
      let k : ℕ = m - steps_of (view c w.tape) in
      let d : Derives prog (budgeted k (inside_of c w)) [] (wait idle never) (budgeted k (inside_of c v)) None = life_within prog c w v t i r k a e f st une in
      let n : ins [] (view c w.tape) ≡ dones [] (view c w.tape) = within_done prog c w v t i r a f in
      let b : begun (view c w.tape) ≡ ended (view c w.tape) = begun_ins (view c w.tape) ∙ n ∙ sym (ended_dones (view c w.tape)) in
      let g : m ≡ steps_of (view c w.tape) + k = omega (arith, le) in
      let x : Outcome = outcome_of (view c w.tape) Finished in
      let y : Reacts prog (budgeted k (inside_of c w)) (budgeted k (inside_of c v)) x =
      over (budgeted k (inside_of c w)) (budgeted k (inside_of c v)) x (derived_runs prog d) (within_uncut prog c w v t i r a e f une) (let z : begun (view c w.tape) ≡ ended (view c w.tape) + 0 = omega arith in z) refl (all_read x (moves_of (view c v.tape)) (ap (λ τ. moves_of (view c τ)) f)) in
      record {
        tape = view c w.tape;
        last = budgeted k (inside_of c v);
        run = subst (λ j. Reacts prog (alone (at w.tree c) (moves_of (view c w.tape)) j (view c w.tape)) (budgeted k (inside_of c v)) x) (sym g) y;
        told = refl;
        left = refl;
      }
