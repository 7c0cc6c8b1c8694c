-- A watched visit in the words of the core.
use Rattle.std.proofs.Common.{◌≡◌, ℕ, ◌≤◌, ◌+◌, List, [], ◌∷◌, ◌++◌, Option, Some, None, refl, sym, ◌∙◌, ap, subst, arith}
use Rattle.tcl_core.specs.Endings.{Reply}
use Rattle.tcl_core.specs.Endings.Reply.{Completed, Stop, Exit, Cut}
use Rattle.tcl_core.specs.Entries.{Entry}
use Rattle.tcl_core.specs.Laws.{IsHeld, IsStanding, IsUnended, Lasts, StopsByItself}
use Rattle.tcl_core.specs.Lives.{Lives, Outcome, React, count_at, ending_of, idle, last_of, never, outcome_at, outcome_of, outs_of}
use Rattle.tcl_core.specs.Lives.Outcome.{Finished}
use Rattle.tcl_core.specs.Paths.{Path, Place, rise_to}
use Rattle.tcl_core.specs.Programs.{Table, Wait}
use Rattle.tcl_core.specs.Programs.Prog.{wait}
use Rattle.tcl_core.specs.Execution.{before}
use Rattle.tcl_core.specs.Trees.{Event, Move, Node, Tree, What, at}
use Rattle.tcl_core.specs.Trees.What.{Done, Unfound}
use Rattle.tcl_core.specs.Views.{moves_of, steps_of, view}
use Rattle.tcl_core.proofs.Beginnings.{isolation_until}
use Rattle.tcl_core.proofs.Counts.{counting, standing}
use Rattle.tcl_core.proofs.Reactions.{one_reaction}
use Rattle.tcl_core.proofs.Reacting.{IsLasting, lasting, life_of}
use Rattle.tcl_core.proofs.Worlds.{isolation}
use Rattle.tcl_isolation.specs.Laws.{Suffices}
use Rattle.tcl_isolation.specs.Visits.{IsBelowTheTop, WatchedVisit, visit}
use Rattle.tcl_recorder.proofs.Meeting.{AreMet, visit_met}
use Rattle.tcl_isolation.proofs.Records.{AreFound, Parts, found_below, lasting_front, moves_past, outcome_past, outs_past, parts, unended}

-- the outcome that a record tells is one of those by which a tree stops by itself
stops_ending : (r : Reply) → StopsByItself (ending_of r)
stops_ending (Completed c) = tt
stops_ending (Stop n m) = tt
stops_ending (Exit n) = tt
stops_ending (Cut c) = tt

stops_last : (o : Option Place) (r : Reply) (x : Outcome) → StopsByItself x → StopsByItself (last_of o r x)
stops_last None r x f = stops_ending r
stops_last (Some a) r x f = f

module _ {O : Type 0} where
  stops_at : (p : Place) (y : What O) (x : Outcome) → StopsByItself x → StopsByItself (outcome_at p y x)
  stops_at p (Done h r) x f = stops_last (rise_to h p) r x f
  stops_at p (Unfound t i c) x f = tt
  stops_at p _ x f = f

  pub by_itself : (τ : List (Event O)) (x : Outcome) → StopsByItself x → StopsByItself (outcome_of τ x)
  by_itself [] x f = f
  by_itself (ev ∷ τ) x f = by_itself τ (outcome_at ev.place ev.what x) (stops_at ev.place ev.what x f)

module _ {O I S : Type 0} (goes : Tree O → S → Wait → Event O → S → Type 0) (prog : Table O I) (T V : Tree O) (o z : S) (t : Path) (i : Entry) (c : Place) (crossings : List (Event O)) (r : Reply) where
  abbrev pub Watched : Type 0
  Watched = WatchedVisit goes prog T o t i c crossings V z r

  -- all that happens in it, and in the subtree
  abbrev pub tape : Watched → List (Event O)
  tape w = visit t i w.events r

  abbrev pub seen : Watched → List (Event O)
  seen w = view c (tape w)

  pub life : (w : Watched) → Lives prog (before T (tape w)) (before V []) None
  life w = life_of prog (before T (tape w)) (before V []) t i r w.visits refl refl

  held : (d : Place) (ms : List (Move O)) → IsBelowTheTop d → IsHeld d ms
  held [] ms f = absurd f
  held (x ∷ d) ms f = tt

  pub lasts : (w : Watched) (n : Node O) → IsBelowTheTop c → T c ≡ Some n → Lasts c (before T (tape w))
  lasts w n f e = record { node = n; stands = e; spared = w.spared; held = held c (moves_of (tape w)) f }

  pub stands : (w : Watched) (n : Node O) → IsBelowTheTop c → T c ≡ Some n → IsStanding c (tape w)
  stands w n f e = standing prog c (before T (tape w)) [] (wait idle never) (before V []) None (life w) (lasts w n f e) refl

  pub remains : (w : Watched) (n : Node O) → IsBelowTheTop c → T c ≡ Some n → IsLasting (seen w)
  remains w n f e = lasting c (tape w) (stands w n f e)

  pub met : (w : Watched) → AreMet T (tape w)
  met w = visit_met prog (before T (tape w)) t i (before V []) r w.visits tt

  pub found : (w : Watched) → IsBelowTheTop c → AreFound (seen w)
  found w f = by c f
    where
      by : (d : Place) → IsBelowTheTop d → AreFound (view d (tape w))
      by [] g = absurd g
      by (name ∷ d) g = found_below T name d (tape w) (met w)

  pub same_moves : (w : Watched) (n : Node O) → IsBelowTheTop c → T c ≡ Some n → moves_of crossings ≡ moves_of (seen w)
  same_moves w n f e = ap moves_of w.recorded ∙ moves_past (seen w) (remains w n f e)

  pub same_outs : (w : Watched) → outs_of crossings ≡ outs_of (seen w)
  same_outs w = ap outs_of w.recorded ∙ outs_past (seen w)

  pub unended_seen : (w : Watched) → IsUnended crossings → IsUnended (seen w)
  unended_seen w u = unended (seen w) (subst IsUnended w.recorded u)

  -- the steps made in the subtree, by its top's count
  pub steps : (w : Watched) (n : Node O) (m : ℕ) → IsBelowTheTop c → T c ≡ Some n → Suffices m (T c) (V c) → steps_of (seen w) ≤ m
  steps w n m f e le =
      let a : (y : Node O) × (V c ≡ Some y) × (y.count + steps_of (view {O = O} c []) ≡ n.count + steps_of (seen w)) =
      counting prog c [] (before T (tape w)) (wait idle never) (before V []) None n (life w) (lasts w n f e) e in
      let b : count_at (V c) ≡ a.0.count = ap count_at a.1 in
      let d : count_at (T c) ≡ n.count = ap count_at e in
      let enough : count_at (V c) ≤ count_at (T c) + m = le in
      let s : a.0.count + 0 ≡ n.count + steps_of (seen w) = a.2 in
      omega arith

  pub reacts : (w : Watched) (n : Node O) (m : ℕ) → IsBelowTheTop c → T c ≡ Some n → IsUnended crossings → Suffices m (T c) (V c) →
      React prog (at T c) (moves_of crossings) m (outcome_of crossings Finished) (outs_of crossings) (at V c)
  reacts w n m f e u le =
      let x = isolation prog c (before T (tape w)) (before V []) t i r m w.visits refl refl (lasts w n f e) (unended_seen w u) (steps w n m f e le) in
      let y : outcome_of crossings Finished ≡ outcome_of (seen w) Finished = ap (λ l. outcome_of l Finished) w.recorded ∙ outcome_past (seen w) Finished in
      subst (λ q. React prog (at T c) (moves_of crossings) m q (outs_of crossings) (at V c)) (sym y)
      (subst (λ q. React prog (at T c) (moves_of crossings) m (outcome_of (seen w) Finished) q (at V c)) (sym (same_outs w))
      (subst (λ q. React prog (at T c) q m (outcome_of (seen w) Finished) (outs_of (seen w)) (at V c)) (sym (same_moves w n f e)) x))

  -- a part of the record is told by a part of what happens in the subtree
  pub record Split (w : Watched) (early late : List (Event O)) : Type 0 where
    pub front : List (Event O)
    pub back : List (Event O)
    pub whole : seen w ≡ front ++ back
    pub moves : moves_of early ≡ moves_of front
    pub outs : outs_of early ≡ outs_of front
    pub ends : IsUnended early → IsUnended front

  pub split : (w : Watched) (n : Node O) (early late : List (Event O)) → IsBelowTheTop c → T c ≡ Some n → crossings ≡ early ++ late → Split w early late
  split w n early late f e whole =
      let g : Parts (seen w) early late = parts (seen w) early late (found w f) (sym w.recorded ∙ whole) in
      record {
        front = g.front;
        back = g.back;
        whole = g.whole;
        moves = ap moves_of (sym g.fronts) ∙ moves_past g.front (lasting_front g.front g.back (subst IsLasting g.whole (remains w n f e)));
        outs = ap outs_of (sym g.fronts) ∙ outs_past g.front;
        ends = λ u. unended g.front (subst IsUnended (sym g.fronts) u);
      }

  pub until : (w : Watched) (n : Node O) (m : ℕ) (early late : List (Event O)) (x : Outcome) (outs : List (Event O)) (W : Tree O) → IsBelowTheTop c → T c ≡ Some n → crossings ≡ early ++ late → IsUnended early → Suffices m (T c) (V c) →
      React prog (at T c) (moves_of early) m x outs W → (more : List (Event O)) × (outs ≡ outs_of early ++ more)
  until w n m early late x outs W f e whole u le re =
      let g : Split w early late = split w n early late f e whole in
      let h : (more : List (Event O)) × (outs ≡ outs_of g.front ++ more) =
      isolation_until prog c (before T (tape w)) (before V []) t i r m g.front g.back x outs W w.visits refl refl g.whole (g.ends u) (steps w n m f e le) (subst (λ ms. React prog (at T c) ms m x outs W) g.moves re) in
      (h.0, h.1 ∙ ap (λ l. l ++ h.0) (sym g.outs))

  -- what that is, is what each reaction comes to
  pub only : (w : Watched) (n : Node O) (m : ℕ) (x : Outcome) (told : List (Event O)) (W : Tree O) → IsBelowTheTop c → T c ≡ Some n → IsUnended crossings → Suffices m (T c) (V c) →
      React prog (at T c) (moves_of crossings) m x told W → (x ≡ outcome_of crossings Finished) × (told ≡ outs_of crossings) × (W ≡ at V c)
  only w n m x told W f e u le re =
      one_reaction prog (at T c) (moves_of crossings) m (outcome_of crossings Finished) x (outs_of crossings) told (at V c) W (reacts w n m f e u le) (by_itself crossings Finished tt) re
