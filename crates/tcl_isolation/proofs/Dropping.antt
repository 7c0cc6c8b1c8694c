-- What a subtree by itself does with its record up to where it is dropped.
use Rattle.std.proofs.Common.{◌≡◌, ◌⊎◌, inl, inr, ℕ, ◌≤◌, List, [], ◌∷◌, ◌++◌, Option, Some, None, refl, sym, ◌∙◌, ap, subst, arith}
use Rattle.tcl_core.specs.Endings.{Reply}
use Rattle.tcl_core.specs.Entries.{Entry}
use Rattle.tcl_core.specs.Execution.{before, event}
use Rattle.tcl_core.specs.Laws.{IsHeld, IsOpenOrDone, IsSpared, IsStanding, IsUnended, Spares, Stands, StopsByItself, after}
use Rattle.tcl_core.specs.Lives.{Lives, Outcome, React, idle, never, outs_of}
use Rattle.tcl_core.specs.Lives.Outcome.{Finished, Waiting, Ended, Exited, Spent, Misfit}
use Rattle.tcl_core.specs.Paths.{Path, Place, strip}
use Rattle.tcl_core.specs.Programs.{Prog, Table, Wait}
use Rattle.tcl_core.specs.Programs.Prog.{wait}
use Rattle.tcl_core.specs.Runs.{Ending, Runs, World}
use Rattle.tcl_core.specs.Trees.{Event, Move, Node, Tree, What, asked, at, paid, seen_what}
use Rattle.tcl_core.specs.Trees.What.{Charged, Dropped}
use Rattle.tcl_core.specs.Views.{from_above, kept, moves_of, steps_of, view}
use Rattle.tcl_core.proofs.Dropped.{isolation_to_drop}
use Rattle.tcl_core.proofs.Reactions.{one_reaction}
use Rattle.tcl_core.proofs.Counts.{Meters, meters}
use Rattle.tcl_core.proofs.Keeping.{KeepsSteps, runs_keep}
use Rattle.tcl_core.proofs.Reacting.{IsLasting, lasting, life_of}
use Rattle.tcl_core.proofs.Standing.{held_left, stands_of}
use Rattle.tcl_isolation.specs.Laws.{DoesJust}
use Rattle.tcl_isolation.specs.Visits.{DroppedVisit, IsBelowTheTop, visit}
use Rattle.tcl_isolation.proofs.Records.{moves_past, outs_past, unended}

-- what waits or is finished stops by itself
stops_by_itself : (x : Outcome) → IsOpenOrDone x → StopsByItself x
stops_by_itself Finished f = tt
stops_by_itself Waiting f = tt
stops_by_itself Ended f = absurd f
stops_by_itself (Exited n) f = absurd f
stops_by_itself Spent f = absurd f
stops_by_itself Misfit f = absurd f

module _ {O : Type 0} where
  -- a part of the steps is made in the subtree
  steps_above : (b : Option Place) (x : What O) (τ : List (Event O)) → steps_of (from_above b x τ) ≡ steps_of τ
  steps_above None x τ = refl
  steps_above (Some z) Dropped τ = refl
  steps_above (Some z) x τ = refl

  less : (x : What O) (m n : ℕ) → m ≤ n → m ≤ paid x n
  less Charged m n le = omega (arith, le)
  less x m n le = le

  both : (q : Path) (x : What O) (m n : ℕ) → m ≤ n → paid (seen_what q x) m ≤ paid x n
  both q Charged m n le = omega (arith, le)
  both q x m n le = le

  steps_kept : (s b : Option Place) (x : What O) (τ : List (Event O)) (n : ℕ) → steps_of τ ≤ n → steps_of (kept s b x τ) ≤ paid x n
  steps_kept None b x τ n le = less x (steps_of (from_above b x τ)) n (subst (λ k. k ≤ n) (sym (steps_above b x τ)) le)
  steps_kept (Some q) b x τ n le = both q x (steps_of τ) n le

  pub steps_within : (c : Place) (τ : List (Event O)) → steps_of (view c τ) ≤ steps_of τ
  steps_within c [] = omega arith
  steps_within c (ev ∷ τ) = steps_kept (strip c ev.place) (strip ev.place c) ev.what (view c τ) (steps_of τ) (steps_within c τ)

  steps_before : (σ τ : List (Event O)) → steps_of σ ≤ steps_of (σ ++ τ)
  steps_before [] τ = omega arith
  steps_before (ev ∷ σ) τ = more ev.what (steps_of σ) (steps_of (σ ++ τ)) (steps_before σ τ)
    where
      more : (x : What O) (m n : ℕ) → m ≤ n → paid x m ≤ paid x n
      more Charged m n le = omega (arith, le)
      more x m n le = le

  pub steps_until : (c : Place) (σ τ : List (Event O)) (m : ℕ) → steps_of (σ ++ τ) ≤ m → steps_of (view c σ) ≤ m
  steps_until c σ τ m le =
      let a : steps_of (view c σ) ≤ steps_of σ = steps_within c σ in
      let b : steps_of σ ≤ steps_of (σ ++ τ) = steps_before σ τ in
      omega (arith, le)

  not_nil : {A : Type 0} (b : List (Event O)) (ev : Event O) (later : List (Event O)) → b ++ ev ∷ later ≡ [] → A
  not_nil [] ev later e = cc
  not_nil (y ∷ b) ev later e = cc

  -- what stands and isn't dropped before isn't made before either
  abbrev So_far : Place → List (Event O) → Event O → List (Event O) → World O → Type 0
  So_far c first ev later u = ((b : List (Event O)) × (u.tape ≡ b ++ ev ∷ later) × IsSpared c b × IsHeld c u.moves × ((m : Node O) × (u.tree c ≡ Some m)) × (IsStanding c b → IsStanding c first)) ⊎ IsStanding c first

  far_step : (c : Place) (first : List (Event O)) (ev : Event O) (later : List (Event O)) → KeepsSteps (So_far c first ev later)
  far_step c first ev later u p x v due s (inr g) = inr g
  far_step c first ev later u p x v due s (inl ([], t, sp, held, (n, e), f)) = inr (f tt)
  far_step c first ev later u p x v due s (inl (y ∷ b, t, sp, held, (n, e), f)) =
      let q : event p x ∷ v.tape ≡ y ∷ (b ++ ev ∷ later) = sym s.tape ∙ t in
      let same : event p x ≡ y = cc in
      let rest : v.tape ≡ b ++ ev ∷ later = cc in
      let spares : Spares c p x = subst (λ (j : Event O). Spares c j.place j.what) (sym same) sp.0 in
      let holds : IsHeld c (asked p x v.moves) = subst (IsHeld c) s.moves held in
      let there : Stands c p x = stands_of c p x u.tree n v.moves due e spares holds in
      let a : Meters c p x u.tree n = meters c p x u.tree n there e in
      inl (b, rest, sp.1, held_left c p x v.moves holds, (a.0, ap (λ T. T c) s.tree ∙ a.1), (λ g. f (subst (λ (j : Event O). Stands c j.place j.what) same there, g)))

  held : (c : Place) (ms : List (Move O)) → IsBelowTheTop c → IsHeld c ms
  held [] ms f = absurd f
  held (x ∷ c) ms f = tt

standing_before : {O I : Type 0} (prog : Table O I) (c : Place) (w v : World O) (p : Place) (x : Prog O I) (e : Ending) (first later : List (Event O)) (ev : Event O) (n : Node O) → Runs prog w p x v e → v.tape ≡ [] → w.tape ≡ first ++ ev ∷ later → w.tree c ≡ Some n → IsSpared c first → IsHeld c w.moves → IsStanding c first
standing_before {O} prog c w v p x e first later ev n a f t stands spared held = by (runs_keep (So_far c first ev later) (far_step c first ev later) prog w p x v e a (inl (first, t, spared, held, (n, stands), (λ g. g))))
  where
    by : So_far c first ev later v → IsStanding c first
    by (inr g) = g
    by (inl (b, t2, sp, held2, there, g)) = not_nil b ev later (sym t2 ∙ f)

module _ {O I S : Type 0} (goes : Tree O → S → Wait → Event O → S → Type 0) (prog : Table O I) (T V : Tree O) (o z : S) (t : Path) (i : Entry) (c : Place) (crossings : List (Event O)) (r : Reply) (n : Node O) (m : ℕ) where
  abbrev Cut_off : Type 0
  Cut_off = DroppedVisit goes prog T o t i c crossings V z r

  lasting_first : (w : Cut_off) → IsBelowTheTop c → T c ≡ Some n → IsLasting (view c w.first)
  lasting_first w f e =
      let whole : Lives prog (before T (visit t i w.events r)) (before V []) None = life_of prog (before T (visit t i w.events r)) (before V []) t i r w.visits refl refl in
      lasting c w.first (standing_before prog c (before T (visit t i w.events r)) (before V []) [] (wait idle never) None w.first w.last (event w.dropped Dropped) n whole refl w.parts e w.spared (held c (moves_of (visit t i w.events r)) f))

  pub reacts_to_drop : (w : Cut_off) → IsBelowTheTop c → T c ≡ Some n → IsUnended crossings → steps_of (view c w.first) ≤ m →
      (x : Outcome) × IsOpenOrDone x × DoesJust prog (at T c) (moves_of crossings) m x (outs_of crossings) (at (after w.first T) c)
  reacts_to_drop w f e u le =
      let moves : moves_of crossings ≡ moves_of (view c w.first) = ap moves_of w.recorded ∙ moves_past (view c w.first) (lasting_first w f e) in
      let outs : outs_of crossings ≡ outs_of (view c w.first) = ap outs_of w.recorded ∙ outs_past (view c w.first) in
      let h = isolation_to_drop prog c (before T (visit t i w.events r)) (before V []) t i r m w.first w.last w.dropped w.below n w.visits refl refl w.parts w.falls e w.spared (held c (moves_of (visit t i w.events r)) f) (unended (view c w.first) (subst IsUnended w.recorded u)) le in
      let d : React prog (at T c) (moves_of crossings) m h.0 (outs_of crossings) (at (after w.first T) c) =
      subst (λ ms. React prog (at T c) ms m h.0 (outs_of crossings) (at (after w.first T) c)) (sym moves) (subst (λ l. React prog (at T c) (moves_of (view c w.first)) m h.0 l (at (after w.first T) c)) (sym outs) h.2) in
      (h.0, h.1, record { does = d; nothing_else = λ y told U b. one_reaction prog (at T c) (moves_of crossings) m h.0 y (outs_of crossings) told (at (after w.first T) c) U d (stops_by_itself h.0 h.1) b })
