-- Where a subtree is dropped, what it did until then is what it does by itself.
use Rattle.std.proofs.Common.{sym, ◌≡◌, ◌⊎◌, inl, inr, ℕ, zero, suc, ◌+◌, ◌-◌, List, [], ◌∷◌, ◌++◌, Option, Some, None, length, refl, ◌∙◌, ap, subst, arith, append-nil, length-append}
use Rattle.tcl_core.specs.Paths.{Path, Place, strip}
use Rattle.tcl_core.specs.Endings.{Reply}
use Rattle.tcl_core.specs.Endings.Reply.{Completed, Stop, Exit, Cut}
use Rattle.tcl_core.specs.Entries.{Entry}
use Rattle.tcl_core.specs.Trees.{Event, Grant, Move, Node, Tree, What, asked, at, granted}
use Rattle.tcl_core.specs.Trees.Grant.{Allow}
use Rattle.tcl_core.specs.Trees.Grants.{Listed}
use Rattle.tcl_core.specs.Trees.Move.{Born, Fall, Enter, Come}
use Rattle.tcl_core.specs.Trees.What.{Dropped, In, Unfound}
use Rattle.tcl_core.specs.Programs.{Prog, Table}
use Rattle.tcl_core.specs.Programs.Prog.{wait}
use Rattle.tcl_core.specs.Runs.{World, Ending, Halts, Runs, RunsIn, Stays, Visits, Waits, Enters}
use Rattle.tcl_core.specs.Rules.{IsNoExit}
use Rattle.tcl_core.specs.Views.{from_above, grants_of, moves_of, steps_of, view, inside_of, kept}
use Rattle.tcl_core.specs.Lives.{Lives, Outcome, Reacts, alone, begun, ended, idle, never, IsUncut, outcome_of, ending_of}
use Rattle.tcl_core.specs.Lives.Outcome.{Finished, Waiting}
use Rattle.tcl_core.specs.Lives.Reacts.{over, waiting}
use Rattle.tcl_core.specs.Laws.{IsHeld, IsOpenOrDone, IsSpared, IsStanding, IsolationToDrop, Spares, Stands, after, more_grants}
use Rattle.tcl_core.proofs.PathLaws.{strip-sound}
use Rattle.tcl_core.proofs.RuleLaws.{derived_runs}
use Rattle.tcl_core.proofs.Keeping.{KeepsSteps, runs_keep}
use Rattle.tcl_core.proofs.TreeLaws.{listed}
use Rattle.tcl_core.proofs.Standing.{held_left, stands_of}
use Rattle.tcl_core.proofs.Counts.{Meters, happenings, meters}
use Rattle.tcl_core.proofs.Budgets.{IsRich, budgeted, halting, words_for}
use Rattle.tcl_core.proofs.Balance.{Owes, dones, ins, owes}
use Rattle.tcl_core.proofs.Reacting.{IsHanded, IsLasting, balanced_after, exits_idle, lasting, life_of, lift_visits, never_halts, handed_step}
use Rattle.tcl_core.proofs.Halts.{halted_tape}
use Rattle.tcl_core.proofs.Conclusions.{lives_within, moments}
use Rattle.tcl_core.proofs.Unended.{uncut}
use Rattle.tcl_core.proofs.Worlds.{begun_ins, ended_dones, within_done}
use Rattle.tcl_core.proofs.UpToDrop.{Goes_to, UpTo, at_top_drop, at_top_made, drop, handed_after, in_no_drop, is_no_drop, not_nil, only, visited, words_more, unfound_to, unfound_no_drop}

abbrev halted : Ending
halted = None

module _ {O I : Type 0} (prog : Table O I) where
  -- after an entry the life goes on, unless that exited
  follows : (n : ℕ) → Goes_to prog n → (z u y : World O) (t : Path) (i : Entry) (r : Reply) (later : List (Event O)) → IsHanded u → ins [] u.tape ≡ dones [] u.tape → y.tape ≡ [] → Stays (RunsIn prog n) u [] idle never (Some r) y None →
      (left : List (Event O)) → IsLasting left → u.tape ≡ left ++ drop ∷ later → IsNoExit r × (ending_of r ≡ Finished) × UpTo prog u left
  follows n ih z u y t i (Completed x) later a d f s left l e = (tt, refl, ih u y left later a l d f s e)
  follows n ih z u y t i (Stop q m) later a d f s left l e = (tt, refl, ih u y left later a l d f s e)
  follows n ih z u y t i (Cut q) later a d f s left l e = (tt, refl, ih u y left later a l d f s e)
  follows n ih z u y t i (Exit q) later a d f s left l e = let h : Halts u y None = exits_idle u q u.moves y s in not_nil left drop later (sym e ∙ h.tape)

  entry_to : (n : ℕ) → Goes_to prog n → (z u y : World O) (b r : List (Event O)) (t : Path) (i : Entry) (a : Reply) → IsHanded z → IsLasting b → ins [] z.tape ≡ dones [] z.tape → y.tape ≡ [] →
      Visits prog (Runs prog) z None t i u (Some a) → Stays (RunsIn prog n) u [] idle never (Some a) y None → z.tape ≡ b ++ drop ∷ r → UpTo prog z b
  entry_to n ih z u y [] r t i a h l d f v s e =
      let q : record { place = t; what = In None i } ∷ v.entered.tape ≡ drop {O = O} ∷ r = sym v.entry.tape ∙ e in
      let same : record { place = t; what = In None i } ≡ drop {O = O} = cc in
      is_no_drop t (In None i) same (λ j. in_no_drop i j)
  entry_to n ih z u y (ev ∷ b) r t i a h l d f v s e =
      let q : record { place = t; what = In None i } ∷ v.entered.tape ≡ ev ∷ (b ++ drop ∷ r) = sym v.entry.tape ∙ e in
      let same : record { place = t; what = In None i } ≡ ev = cc in
      let rest : v.entered.tape ≡ b ++ drop ∷ r = cc in
      subst (λ y2. UpTo prog z (y2 ∷ b)) same (visited prog z u t i a v b r h rest l.1
      (follows n ih z u y t i a r (handed_after prog z u t i a v b r h) (balanced_after prog 0 z t i u a v d) f s))

  enters_to : (n : ℕ) → Goes_to prog n → (z y : World O) (b r : List (Event O)) → IsHanded z → IsLasting b → ins [] z.tape ≡ dones [] z.tape → y.tape ≡ [] → (t : Path) (i : Entry) (x : Option (Node O)) → z.tree t ≡ x → Enters prog (RunsIn prog n) z [] idle never t i x y None → z.tape ≡ b ++ drop ∷ r → UpTo prog z b
  enters_to n ih z y b r a l d f t i (Some x) g (u, None, v, s) e = never_halts prog 0 z t i u (lift_visits prog 0 n z t i u None v) d (ap (λ (w : World O). w.tape) (sym s.0) ∙ f)
  enters_to n ih z y b r a l d f t i (Some x) g (u, Some c, v, s) e = entry_to n ih z u y b r t i c a l d f (lift_visits prog 0 n z t i u (Some c) v) s e
  enters_to n ih z y [] r a l d f t i None g (u, s, h) e =
      let q : record { place = []; what = Unfound t i (prog.lost t) } ∷ u.tape ≡ drop {O = O} ∷ r = sym s.tape ∙ e in
      let same : record { place = []; what = Unfound t i (prog.lost t) } ≡ drop {O = O} = cc in
      is_no_drop [] (Unfound t i (prog.lost t)) same (λ j. unfound_no_drop t i (prog.lost t) j)
  enters_to n ih z y (ev ∷ b) r a l d f t i None g (u, s, h) e =
      let q : record { place = []; what = Unfound t i (prog.lost t) } ∷ u.tape ≡ ev ∷ (b ++ drop ∷ r) = sym s.tape ∙ e in
      let same : record { place = []; what = Unfound t i (prog.lost t) } ≡ ev = cc in
      let rest : u.tape ≡ b ++ drop ∷ r = cc in
      let still : ins [] u.tape ≡ dones [] u.tape = sym (ap (ins []) s.tape) ∙ d ∙ ap (dones []) s.tape in
      subst (λ y2. UpTo prog z (y2 ∷ b)) same (unfound_to prog z u t i b g s (ih u y b r (handed_step z [] (Unfound t i (prog.lost t)) u tt s a) l.1 still f h rest))

  waits_to : (n : ℕ) → Goes_to prog n → (z y : World O) (b r : List (Event O)) → IsHanded z → IsLasting b → ins [] z.tape ≡ dones [] z.tape → y.tape ≡ [] → (ms : List (Move O)) → Waits prog (RunsIn prog n) z [] idle never ms y None → z.tape ≡ b ++ drop ∷ r → UpTo prog z b
  waits_to n ih z y b r a l d f [] h e = not_nil b drop r (sym e ∙ h.tape)
  waits_to n ih z y b r a l d f (Come w ∷ ms) h e = not_nil b drop r (sym e ∙ h.tape)
  waits_to n ih z y b r a l d f (Born o s ∷ ms) (u, t, h) e = at_top_made prog o s z u b r l t e
  waits_to n ih z y b r a l d f (Fall ∷ ms) (u, t, h) e = at_top_drop prog z u b r l t e
  waits_to n ih z y b r a l d f (Enter t i ∷ ms) h e = enters_to n ih z y b r a l d f t i (z.tree t) refl h e

  pub goes_to : (n : ℕ) → Goes_to prog n
  goes_to zero z y b r a l d f g e = absurd g
  goes_to (suc n) z y b r a l d f (g, h) e = waits_to n (goes_to n) z y b r a l d f z.moves h e

nil_of : (q : Place) → length q ≡ 0 → q ≡ []
nil_of [] e = refl
nil_of (x ∷ q) e = absurd (let z : Prim.⊥ = omega arith in z)

last_word : (gs : List Grant) → (x : Grant) × (xs : List Grant) × (more_grants (Allow ∷ []) (Listed gs) ≡ Listed (x ∷ xs))
last_word [] = (Allow, [], refl)
last_word (g ∷ gs) = (g, gs ++ Allow ∷ [], refl)

module _ {O : Type 0} where
  -- VIEWS
  kept_front : (s b : Option Place) (x : What O) (τ σ : List (Event O)) → kept s b x (τ ++ σ) ≡ kept s b x τ ++ σ
  kept_front (Some q) b x τ σ = refl
  kept_front None None x τ σ = refl
  kept_front None (Some z) Dropped τ σ = refl
  kept_front None (Some z) x τ σ = refl

  view_append : (c : Place) (a b : List (Event O)) → view c (a ++ b) ≡ view c a ++ view c b
  view_append c [] b = refl
  view_append c (ev ∷ a) b = ap (kept (strip c ev.place) (strip ev.place c) ev.what) (view_append c a b) ∙ kept_front (strip c ev.place) (strip ev.place c) ev.what (view c a) (view c b)

  drop_seen : (c d z : Place) → strip d c ≡ Some z → (s : Option Place) → strip c d ≡ s → (τ : List (Event O)) → kept s (strip d c) Dropped τ ≡ drop ∷ τ
  drop_seen c d z e None f τ = ap (λ o. from_above o Dropped τ) e
  drop_seen c d z e (Some q) f τ =
      let a : length d ≡ length c + length q = ap length (strip-sound c d q f) ∙ length-append c q in
      let b : length c ≡ length d + length z = ap length (strip-sound d c z e) ∙ length-append d z in
      let n : q ≡ [] = nil_of q (omega arith) in
      ap (λ r. record { place = r; what = Dropped } ∷ τ) n

  -- what stands and isn't dropped before isn't made before either
  abbrev So_far : Place → List (Event O) → Event O → List (Event O) → World O → Type 0
  So_far c before ev later u = ((b : List (Event O)) × (u.tape ≡ b ++ ev ∷ later) × IsSpared c b × IsHeld c u.moves × ((m : Node O) × (u.tree c ≡ Some m)) × (IsStanding c b → IsStanding c before)) ⊎ IsStanding c before

  far_step : (c : Place) (before : List (Event O)) (ev : Event O) (later : List (Event O)) → KeepsSteps (So_far c before ev later)
  far_step c before ev later u p x v due s (inr g) = inr g
  far_step c before ev later u p x v due s (inl ([], t, sp, held, (n, e), f)) = inr (f tt)
  far_step c before ev later u p x v due s (inl (y ∷ b, t, sp, held, (n, e), f)) =
      let q : record { place = p; what = x } ∷ v.tape ≡ y ∷ (b ++ ev ∷ later) = sym s.tape ∙ t in
      let same : record { place = p; what = x } ≡ y = cc in
      let rest : v.tape ≡ b ++ ev ∷ later = cc in
      let st2 : Spares c p x = subst (λ (j : Event O). Spares c j.place j.what) (sym same) sp.0 in
      let held2 : IsHeld c (asked p x v.moves) = subst (IsHeld c) s.moves held in
      let there : Stands c p x = stands_of c p x u.tree n v.moves due e st2 held2 in
      let a : Meters c p x u.tree n = meters c p x u.tree n there e in
      inl (b, rest, sp.1, held_left c p x v.moves held2, (a.0, ap (λ T. T c) s.tree ∙ a.1), (λ g. f (subst (λ (j : Event O). Stands c j.place j.what) same there, g)))

  -- the words that are left
  words_append : (a b : List (Event O)) → grants_of (a ++ b) ≡ words_for a (grants_of b)
  words_append [] b = refl
  words_append (ev ∷ a) b = ap (granted ev.place ev.what) (words_append a b)

  rich_only : (z : World O) (b r : List (Event O)) → z.grants ≡ grants_of (b ++ r) → IsRich (only z b)
  rich_only z b r e =
      let g : (gs : List Grant) × (grants_of r ≡ Listed gs) = listed r in
      let w : (x : Grant) × (xs : List Grant) × (more_grants (Allow ∷ []) (Listed g.0) ≡ Listed (x ∷ xs)) = last_word g.0 in
      (w.0, w.1, ap (more_grants (Allow ∷ [])) (e ∙ words_append b r) ∙ words_more b (grants_of r) ∙ ap (words_for b) (ap (more_grants (Allow ∷ [])) g.1 ∙ w.2))

module _ {O I : Type 0} where
  standing_before : (prog : Table O I) (c : Place) (w v : World O) (p : Place) (x : Prog O I) (e : Ending) (before later : List (Event O)) (ev : Event O) (n : Node O) → Runs prog w p x v e → v.tape ≡ [] → w.tape ≡ before ++ ev ∷ later → w.tree c ≡ Some n → IsSpared c before → IsHeld c w.moves → IsStanding c before
  standing_before prog c w v p x e before later ev n a f t stands spared held =
      by (runs_keep (So_far c before ev later) (far_step c before ev later) prog w p x v e a (inl (before, t, spared, held, (n, stands), (λ g. g))))
    where
      by : So_far c before ev later v → IsStanding c before
      by (inr g) = g
      by (inl (b, t2, sp, held2, there, g)) = not_nil b ev later (sym t2 ∙ f)

  -- how it stands then
  stopped_so : (prog : Table O I) (S : Tree O) (b : List (Event O)) (k : ℕ) (last : World O) (o : ℕ) → Lives prog (alone S (moves_of b) (steps_of b + k) b) last None → IsUncut b → begun b ≡ ended b + o → last.moves ≡ [] → (o ≡ 0 → outcome_of b Finished ≡ Finished) →
      (x : Outcome) × IsOpenOrDone x × Reacts prog (alone S (moves_of b) (steps_of b + k) b) last x
  stopped_so prog S b k last zero l u p m f = (Finished, tt, over (alone S (moves_of b) (steps_of b + k) b) last Finished l u p (sym (f refl)) m)
  stopped_so prog S b k last (suc o) l u p m f = (Waiting, tt, waiting (alone S (moves_of b) (steps_of b + k) b) last o l u p m)

  pub isolation_to_drop : IsolationToDrop O I
  isolation_to_drop prog c w v t i r m before later d z n a e f tape at_or_above stands spared held une le =
      let whole : Lives prog w v None = life_of prog w v t i r a e f in
      let b : List (Event O) = view c before in
      let L : World O = inside_of c w in
      let seen : view c w.tape ≡ b ++ drop ∷ view c later = ap (view c) tape ∙ view_append c before (record { place = d; what = Dropped } ∷ later) ∙ ap (λ τ. b ++ τ) (drop_seen c d z at_or_above (strip c d) refl (view c later)) in
      let l : Lives prog L (inside_of c v) None = lives_within prog c w v whole in
      let firm : IsStanding c before = standing_before prog c w v [] (wait idle never) None before later (record { place = d; what = Dropped }) n whole f tape stands spared held in
      let g : UpTo prog L b = goes_to prog l.0 L (inside_of c v) b (view c later) refl (lasting c before firm) (within_done prog c w v t i r a f) (ap (view c) f) l.1 seen in
      let none : g.last.tape ≡ [] = halted_tape prog g.life refl in
      let un : IsUncut b = uncut prog g.life une tt (subst IsUncut (sym none) tt) in
      let rich : IsRich (only L b) = rich_only L b (drop ∷ view c later) (ap grants_of seen) in
      let k : ℕ = m - steps_of b in
      let life : Lives prog (budgeted k (only L b)) (budgeted k g.last) None = derived_runs prog (halting prog k g.life un rich refl) in
      let o : Owes [] (only L b) g.last None = owes [] prog g.life in
      let sum : ins [] b + dones [] g.last.tape ≡ dones [] b + ins [] g.last.tape + o.open_ins = o.sum in
      let i0 : ins [] g.last.tape ≡ 0 = ap (ins []) none in
      let d0 : dones [] g.last.tape ≡ 0 = ap (dones []) none in
      let ib : begun b ≡ ins [] b = begun_ins b in
      let db : ended b ≡ dones [] b = ended_dones b in
      let open_now : begun b ≡ ended b + o.open_ins = omega arith in
      let x : (x : Outcome) × IsOpenOrDone x × Reacts prog (budgeted k (only L b)) (budgeted k g.last) x =
      stopped_so prog (at w.tree c) b k (budgeted k g.last) o.open_ins life un open_now g.moves (λ q. g.outcome (omega arith)) in
      let made : (made : List (Event O)) × ((only L b).tape ≡ made ++ g.last.tape) × (g.last.tree ≡ after made (at w.tree c)) = happenings prog (only L b) [] (wait idle never) g.last None (derived_runs prog g.life) in
      let all_made : b ≡ made.0 = made.1 ∙ ap (λ l2. made.0 ++ l2) none ∙ append-nil made.0 in
      let budget : m ≡ steps_of b + k = omega (arith, le) in (
        x.0,
        x.1,
        record {
          tape = b;
          last = budgeted k g.last;
          run = subst (λ j. Reacts prog (alone (at w.tree c) (moves_of b) j b) (budgeted k g.last) x.0) (sym budget) x.2;
          told = refl;
          left = moments c before w.tree ∙ ap (λ τ. after τ (at w.tree c)) all_made ∙ sym made.2;
        },
      )
