-- What a subtree by itself does with a part of its record.
use Rattle.std.proofs.Common.{◌≡◌, ◌⊎◌, inl, inr, ℕ, ◌≤◌, ◌+◌, Bool, true, false, nat_lt, List, [], ◌∷◌, ◌++◌, Option, Some, None, length, refl, sym, ◌∙◌, ap, subst, arith, append_assoc, append-nil}
use Rattle.tcl_core.specs.Endings.{Cause, Kind, Reply}
use Rattle.tcl_core.specs.Endings.Kind.{Full, Gone}
use Rattle.tcl_core.specs.Endings.Reply.{Completed, Stop, Exit, Cut}
use Rattle.tcl_core.specs.Endings.Cause.{Above, Over}
use Rattle.tcl_core.specs.Entries.{Answer, Entry}
use Rattle.tcl_core.specs.Entries.Answer.{Replied, Heard, Nobody}
use Rattle.tcl_core.specs.Execution.{before, event}
use Rattle.tcl_core.specs.Laws.{IsUnended, ReadsMove, StopsByItself, after, comes_in, goes_out, life_at, turn_in}
use Rattle.tcl_core.specs.Lives.{Lives, Outcome, React, begun, ended, idle, never, outcome_of, outs_of, put, told}
use Rattle.tcl_core.specs.Lives.Outcome.{Ended, Finished, Waiting}
use Rattle.tcl_core.specs.Paths.{Path, Place, Height, rise_to, strip}
use Rattle.tcl_core.specs.Programs.{Table, Wait}
use Rattle.tcl_core.specs.Trees.{Event, Move, Node, Tree, What, asked, at, at_top, seen_answer, seen_reply, seen_what, stopped, where_none}
use Rattle.tcl_core.specs.Trees.Move.{Enter, Come, Born, Fall}
use Rattle.tcl_core.specs.Trees.What.{Out, In, Done, Back, Made, Dropped, Unfound}
use Rattle.tcl_core.specs.Programs.Prog.{wait}
use Rattle.tcl_core.specs.Views.{from_above, inside_of, kept, moves_of, steps_of, view}
use Rattle.tcl_core.proofs.Beginnings.{outs_append}
use Rattle.tcl_core.proofs.Conclusions.{lives_within, moments}
use Rattle.tcl_core.proofs.Lending.{moves_append}
use Rattle.tcl_core.proofs.Reactions.{one_reaction}
use Rattle.tcl_core.proofs.Reacting.{IsLasting}
use Rattle.tcl_core.proofs.RuleLaws.{runs_derived}
use Rattle.tcl_core.proofs.Tracking.{Tracked, Turned, no_tape, track}
use Rattle.tcl_reactions.specs.Laws.{AreFromAbove, IsAnswer, outcome_so_far, waits_if}
use Rattle.tcl_reactions.proofs.OneOutcome.{one_outcome}
use Rattle.tcl_reactions.proofs.Pauses.{reacts_before}
use Rattle.tcl_recorder.specs.Boundary.{boundary, past, past_the_top}
use Rattle.tcl_recorder.proofs.BoundaryLaws.{view_append}
use Rattle.tcl_isolation.specs.Laws.{DoesJust, DoesUntil, IsEnd, IsMove, IsTold, StartsWith, Suffices}
use Rattle.tcl_isolation.specs.Visits.{IsBelowTheTop, WatchedVisit, visit}
use Rattle.tcl_isolation.proofs.Records.{AreFound, IsFound, PartsAt, found_front, lasting_front, moves_past, outs_past, parts_at, so_far_past, unended}
use Rattle.tcl_isolation.proofs.Turning.{no_done, no_move, no_out}
use Rattle.tcl_isolation.proofs.Untouching.{unseen_above}
use Rattle.tcl_isolation.proofs.Watching as watching
use Rattle.tcl_isolation.proofs.Watching.{by_itself}

module _ {O : Type 0} where
  -- ## What hands in a move reads one

  put_out : (o : Option Place) (p : Place) (x : What O) → put o p x [] ≡ event p x ∷ [] → o ≡ None
  put_out None p x e = refl
  put_out (Some a) p x e = cc

  reads_in : (p : Place) (h : Height) (i : Entry) → rise_to h p ≡ None → ReadsMove {O = O} (event p (In h i))
  reads_in p h i e ms = (Enter p i, ap (λ o. where_none o (Enter p i) ms) e)

  reads_back : (p : Place) (h : Height) (a : Answer) → rise_to h p ≡ None → ReadsMove {O = O} (event p (Back h a))
  reads_back p h a e ms = (Come a, ap (λ o. where_none o (Come a) ms) e)

  reads_move : (p : Place) (x : What O) → past p x [] ≡ event p x ∷ [] → IsMove x → ReadsMove (event p x)
  reads_move p (In h i) e f = reads_in p h i (put_out (rise_to h p) p (In h i) e)
  reads_move p (Back h a) e f = reads_back p h a (put_out (rise_to h p) p (Back h a) e)
  reads_move p x e f = absurd f

  answer_moves : (x : What O) → IsAnswer x → IsMove x
  answer_moves (Back h a) f = tt
  answer_moves x f = absurd f

  -- one that ends a call from outside
  pub record Ending (ev : Event O) : Type 0 where
    pub height : Height
    pub cause : Cause
    pub same : ev ≡ event ev.place (Back height (Replied (Cut cause)))
    pub out : rise_to height ev.place ≡ None

  ending_of : (p : Place) (x : What O) → past p x [] ≡ event p x ∷ [] → IsEnd x → Ending (event p x)
  ending_of p (Back h (Replied (Cut c))) e f = record { height = h; cause = c; same = refl; out = put_out (rise_to h p) p (Back h (Replied (Cut c))) e }
  ending_of p x e f = absurd f

  -- ## Each end from outside is one by what is above

  stopped_above : (b : Bool) (n : ℕ) (m : Rattle.tcl_core.specs.Endings.Meter) (ms : List (Move O)) → AreFromAbove ms → AreFromAbove (Come (Replied (stopped b n m)) ∷ ms)
  stopped_above true n m ms f = f
  stopped_above false n m ms f = f

  answer_above : (q : Place) (a : Answer) (ms : List (Move O)) → AreFromAbove ms → AreFromAbove (Come (seen_answer q a) ∷ ms)
  answer_above q (Heard y) ms f = f
  answer_above q Nobody ms f = f
  answer_above q (Replied (Completed c)) ms f = f
  answer_above q (Replied (Stop n (Full m))) ms f = stopped_above (nat_lt (length q) n) n m ms f
  answer_above q (Replied (Stop n Gone)) ms f = f
  answer_above q (Replied (Exit n)) ms f = f
  answer_above q (Replied (Cut c)) ms f = f

  above_where : (o : Option Place) (m : Move O) (ms : List (Move O)) → AreFromAbove (m ∷ ms) → AreFromAbove ms → AreFromAbove (where_none o m ms)
  above_where None m ms f g = f
  above_where (Some a) m ms f g = g

  above_top : (p : Place) (m : Move O) (ms : List (Move O)) → AreFromAbove (m ∷ ms) → AreFromAbove ms → AreFromAbove (at_top p m ms)
  above_top [] m ms f g = f
  above_top (y ∷ p) m ms f g = g

  seen_above : (q : Place) (x : What O) (ms : List (Move O)) → AreFromAbove ms → AreFromAbove (asked q (seen_what q x) ms)
  seen_above q (In h i) ms f = above_where (rise_to (Rattle.tcl_core.specs.Paths.seen_height q h) q) (Enter q i) ms f f
  seen_above q (Back h a) ms f = above_where (rise_to h q) (Come (seen_answer q a)) ms (answer_above q a ms f) f
  seen_above q (Made o s) ms f = above_top q (Born o s) ms f f
  seen_above q Dropped ms f = above_top q Fall ms f f
  seen_above q x ms f = f

  dropped_above : (b : Option Place) (x : What O) (τ : List (Event O)) → AreFromAbove (moves_of τ) → AreFromAbove (moves_of (from_above b x τ))
  dropped_above None x τ f = f
  dropped_above (Some z) Dropped τ f = f
  dropped_above (Some z) x τ f = f

  kept_above : (s b : Option Place) (x : What O) (τ : List (Event O)) → AreFromAbove (moves_of τ) → AreFromAbove (moves_of (kept s b x τ))
  kept_above None b x τ f = dropped_above b x τ f
  kept_above (Some q) b x τ f = seen_above q x (moves_of τ) f

  view_above : (c : Place) (τ : List (Event O)) → AreFromAbove (moves_of (view c τ))
  view_above c [] = tt
  view_above c (ev ∷ τ) = kept_above (strip c ev.place) (strip ev.place c) ev.what (view c τ) (view_above c τ)

  -- a happening that hands in a move is seen as one
  abbrev SeenAs : List (Event O) → Type 0
  SeenAs σ = (next : Event O) × (σ ≡ next ∷ []) × ReadsMove next

  in_seen : (o : Option Place) (q : Place) (h : Height) (i : Entry) (m : Move O) → rise_to h q ≡ o → moves_of (put o q (In h i) []) ≡ m ∷ [] → ReadsMove {O = O} (event q (In h i))
  in_seen None q h i m e f = reads_in q h i e
  in_seen (Some a) q h i m e f = no_move m f

  back_seen : (o : Option Place) (q : Place) (h : Height) (a : Answer) (m : Move O) → rise_to h q ≡ o → moves_of (put o q (Back h a) []) ≡ m ∷ [] → ReadsMove {O = O} (event q (Back h a))
  back_seen None q h a m e f = reads_back q h a e
  back_seen (Some z) q h a m e f = no_move m f

  seen_reads : (q : Place) (x : What O) (m : Move O) → moves_of (past q x []) ≡ m ∷ [] → ReadsMove (event q x)
  seen_reads q (In h i) m f = in_seen (rise_to h q) q h i m refl f
  seen_reads q (Back h a) m f = back_seen (rise_to h q) q h a m refl f
  seen_reads q (Out h down i) m f = no_out (rise_to h q) q h down i m f
  seen_reads q (Done h r) m f = no_done (rise_to h q) q h r m f
  seen_reads q (Unfound t i c) m f = λ ms. (Enter t i, refl)
  seen_reads q x m f = no_move m f

  kept_reads : (s b : Option Place) (x : What O) (m : Move O) → moves_of (past_the_top (kept s b x [])) ≡ m ∷ [] → SeenAs (kept s b x [])
  kept_reads None b x m f = no_move m (sym (ap moves_of (unseen_above b x [])) ∙ f)
  kept_reads (Some q) b x m f = (event q (seen_what q x), refl, seen_reads q (seen_what q x) m f)

  unended_front : (a b : List (Event O)) → IsUnended (a ++ b) → IsUnended a
  unended_front [] b f = tt
  unended_front (ev ∷ a) b f = (f.0, unended_front a b f.1)

  steps_append : (a b : List (Event O)) → steps_of (a ++ b) ≡ steps_of a + steps_of b
  steps_append [] b = omega arith
  steps_append (ev ∷ a) b = step ev.what (steps_of a) (steps_of b) (steps_of (a ++ b)) (steps_append a b)
    where
      step : (x : What O) (m n l : ℕ) → l ≡ m + n → Rattle.tcl_core.specs.Trees.paid x l ≡ Rattle.tcl_core.specs.Trees.paid x m + n
      step Rattle.tcl_core.specs.Trees.What.Charged m n l e = omega (arith, e)
      step x m n l e = e

  steps_front : (τ a b : List (Event O)) (m : ℕ) → τ ≡ a ++ b → steps_of τ ≤ m → steps_of a ≤ m
  steps_front τ a b m e le = let f : steps_of τ ≡ steps_of a + steps_of b = ap steps_of e ∙ steps_append a b in omega (arith, le)

-- ## Moves and what is told take turns

not_both_ways : {A : Type 0} (b : Bool) → b ≡ false → b ≡ true → A
not_both_ways b e f = absurd (bad e f)
  where
    bad : b ≡ false → b ≡ true → Prim.⊥
    bad g h = let i : false ≡ true = sym g ∙ h in cc

module _ {O : Type 0} where
  -- control being inside, or not, what crosses next is told, or is a move
  abbrev Alternate : Bool → List (Event O) → Type 0
  Alternate b [] = Unit {0}
  Alternate false (ev ∷ τ) = IsMove ev.what × Alternate true τ
  Alternate true (ev ∷ τ) = IsTold ev.what × Alternate false τ

  abbrev Goes : (Bool → Type 0) → List (Event O) → Type 0
  Goes f τ = (b : Bool) → f b → Alternate b τ

  moves_in : (o : Option Place) (p : Place) (x : What O) (f : Bool → Type 0) (τ : List (Event O)) (b : Bool) → IsMove x → Goes f τ → Turned f (comes_in o) b → Alternate b (put o p x τ)
  moves_in None p x f τ b m g t = subst (λ y. Alternate y (event p x ∷ τ)) (sym t.0) (m, g true t.1)
  moves_in (Some a) p x f τ b m g t = subst (λ y. Alternate y τ) (sym t.0) (g true t.1)

  tells_out : (o : Option Place) (p : Place) (x : What O) (f : Bool → Type 0) (τ : List (Event O)) (b : Bool) → IsTold x → Goes f τ → Turned f (goes_out o) b → Alternate b (put o p x τ)
  tells_out None p x f τ b m g t = subst (λ y. Alternate y (event p x ∷ τ)) (sym t.0) (m, g false t.1)
  tells_out (Some a) p x f τ b m g t = subst (λ y. Alternate y τ) (sym t.0) (g true t.1)

  life_on : (p : Place) (f : Bool → Type 0) (τ : List (Event O)) (b : Bool) → Goes f τ → Turned f (life_at p) b → Alternate b τ
  life_on [] f τ b g t = g b t
  life_on (y ∷ p) f τ b g t = subst (λ z. Alternate z τ) (sym t.0) (g true t.1)

  alternate_one : (p : Place) (x : What O) (f : Bool → Type 0) (τ : List (Event O)) (b : Bool) → IsFound x → Goes f τ → Turned f (turn_in p x) b → Alternate b (past p x τ)
  alternate_one p (Unfound t i c) f τ b n g k = absurd n
  alternate_one p (In h i) f τ b n g t = moves_in (rise_to h p) p (In h i) f τ b tt g t
  alternate_one p (Back h a) f τ b n g t = moves_in (rise_to h p) p (Back h a) f τ b tt g t
  alternate_one p (Out h down i) f τ b n g t = tells_out (rise_to h p) p (Out h down i) f τ b tt g t
  alternate_one p (Done h r) f τ b n g t = tells_out (rise_to h p) p (Done h r) f τ b tt g t
  alternate_one p (Made o s) f τ b n g t = life_on p f τ b g t
  alternate_one p Dropped f τ b n g t = life_on p f τ b g t
  alternate_one p x f τ b n g t = subst (λ y. Alternate y τ) (sym t.0) (g true t.1)

  alternate : (σ : List (Event O)) (b : Bool) → AreFound σ → Tracked [] σ b → Alternate b (past_the_top σ)
  alternate [] b n t = tt
  alternate (ev ∷ σ) b n t = alternate_one ev.place ev.what (Tracked [] σ) (past_the_top σ) b n.0 (λ y u. alternate σ y n.1 u) t

  -- what is told stands behind a move
  abbrev Behind : Bool → List (Event O) → Type 0
  Behind b a = ((a ≡ []) × (b ≡ true)) ⊎ ((front : List (Event O)) × (move : Event O) × (a ≡ front ++ move ∷ []) × IsMove move.what)

  behind : (b : Bool) (a : List (Event O)) (ev : Event O) (τ : List (Event O)) → Alternate b (a ++ ev ∷ τ) → IsTold ev.what → Behind b a
  behind false [] ev τ f t = absurd (no_both ev.what f.0 t)
    where
      no_both : (x : What O) → IsMove x → IsTold x → Prim.⊥
      no_both (In h i) g j = j
      no_both (Back h a) g j = j
      no_both x g j = g
  behind true [] ev τ f t = inl (refl, refl)
  behind false (x ∷ a) ev τ f t = next (behind true a ev τ f.1 t)
    where
      next : Behind true a → Behind false (x ∷ a)
      next (inl (e, g)) = inr ([], x, ap (λ l. x ∷ l) e, f.0)
      next (inr (front, move, e, m)) = inr (x ∷ front, move, ap (λ l. x ∷ l) e, m)
  behind true (x ∷ a) ev τ f t = next (behind false a ev τ f.1 t)
    where
      next : Behind false a → Behind true (x ∷ a)
      next (inl (e, g)) = not_both_ways false refl g
      next (inr (front, move, e, m)) = inr (x ∷ front, move, ap (λ l. x ∷ l) e, m)

  -- and a move tells nothing
  move_outs : (a : List (Event O)) (ev : Event O) → IsMove ev.what → outs_of (a ++ ev ∷ []) ≡ outs_of a
  move_outs a ev m = outs_append a (ev ∷ []) ∙ ap (λ l. outs_of a ++ l) (one ev.place ev.what m) ∙ append-nil (outs_of a)
    where
      one : (p : Place) (x : What O) → IsMove x → told p x [] ≡ []
      one p (In h i) f = refl
      one p (Back h y) f = refl
      one p x f = absurd f

-- what waits, or is finished by all that happened, stops by itself
waits_stop : (b : Bool) (x : Outcome) → StopsByItself x → StopsByItself (waits_if b x)
waits_stop true x f = tt
waits_stop false x f = f

module _ {O I S : Type 0} (goes : Tree O → S → Wait → Event O → S → Type 0) (prog : Table O I) (T V : Tree O) (o z : S) (t : Path) (i : Entry) (c : Place) (crossings : List (Event O)) (r : Reply) (n : Node O) (m : ℕ) where
  abbrev Watched : Type 0
  Watched = WatchedVisit goes prog T o t i c crossings V z r

  abbrev seen : Watched → List (Event O)
  seen w = watching.seen goes prog T V o z t i c crossings r w

  module _ (w : Watched) (below : IsBelowTheTop c) (there : T c ≡ Some n) (enough : Suffices m (T c) (V c)) where
    remains : IsLasting (seen w)
    remains = watching.remains goes prog T V o z t i c crossings r w n below there

    steps : steps_of (seen w) ≤ m
    steps = watching.steps goes prog T V o z t i c crossings r w n m below there enough

    found : AreFound (seen w)
    found = watching.found goes prog T V o z t i c crossings r w below

    -- what a part of the happenings is as a record
    moves_front : (front back : List (Event O)) → seen w ≡ front ++ back → moves_of (past_the_top front) ≡ moves_of front
    moves_front front back e = moves_past front (lasting_front front back (subst IsLasting e remains))

    -- the reaction up to where control comes in
    reaction : (front back : List (Event O)) (next : Event O) → seen w ≡ front ++ next ∷ back → ReadsMove next → IsUnended (past_the_top front) →
        React prog (at T c) (moves_of (past_the_top front)) m (outcome_so_far (past_the_top front)) (outs_of (past_the_top front)) (after front (at T c))
    reaction front back next e f u =
        let d : React prog (at T c) (moves_of front) m (outcome_so_far front) (outs_of front) (after front (at T c)) =
        reacts_before.reacts prog c (before T (visit t i w.events r)) (before V []) t i r m front back next w.visits refl refl e f (unended front u) (steps_front (seen w) front (next ∷ back) m e steps) in
        subst (λ ms. React prog (at T c) ms m (outcome_so_far (past_the_top front)) (outs_of (past_the_top front)) (after front (at T c))) (sym (moves_front front (next ∷ back) e))
        (subst (λ x. React prog (at T c) (moves_of front) m x (outs_of (past_the_top front)) (after front (at T c))) (sym (so_far_past front (found_front front (next ∷ back) (subst AreFound e found))))
        (subst (λ outs. React prog (at T c) (moves_of front) m (outcome_so_far front) outs (after front (at T c))) (sym (outs_past front)) d))

    -- it leaves the subtree as it stands there
    pub reacts_there : (first last : List (Event O)) (ev : Event O) (move : Move O) → visit t i w.events r ≡ first ++ ev ∷ last → moves_of (boundary c (ev ∷ [])) ≡ move ∷ [] → IsUnended (boundary c first) →
        React prog (at T c) (moves_of (boundary c first)) m (outcome_so_far (boundary c first)) (outs_of (boundary c first)) (at (after first T) c)
    reacts_there first last ev move e f u =
        let s : SeenAs (view c (ev ∷ [])) = kept_reads (strip c ev.place) (strip ev.place c) ev.what move f in
        let g : seen w ≡ view c first ++ s.0 ∷ view c last =
        ap (view c) e ∙ view_append c first (ev ∷ last) ∙ ap (λ l. view c first ++ l) (view_append c (ev ∷ []) last ∙ ap (λ l. l ++ view c last) s.1) in
        subst (λ W. React prog (at T c) (moves_of (boundary c first)) m (outcome_so_far (boundary c first)) (outs_of (boundary c first)) W) (sym (moments c first T)) (reaction (view c first) (view c last) s.0 g s.2 u)

    -- moves and what is told take turns in the record
    alternates : Alternate false crossings
    alternates =
        let l : Lives prog (inside_of c (before T (visit t i w.events r))) (inside_of c (before V [])) None = lives_within prog c (before T (visit t i w.events r)) (before V []) (watching.life goes prog T V o z t i c crossings r w) in
        let k : Tracked [] (seen w) false =
        track [] prog (runs_derived prog (inside_of c (before T (visit t i w.events r))) [] (wait idle never) (inside_of c (before V [])) None l) (λ y. tt) (no_tape [] prog (inside_of c (before V [])) true refl) in
        subst (Alternate false) (sym w.recorded) (alternate (seen w) false found k)

    module _ (early : List (Event O)) where
      abbrev At : Event O → List (Event O) → Type 0
      At ev late = PartsAt (seen w) early ev late

      at_part : (ev : Event O) (late : List (Event O)) → crossings ≡ early ++ ev ∷ late → At ev late
      at_part ev late e = parts_at (seen w) early ev late found (sym w.recorded ∙ e)

      just : (x : Outcome) (outs : List (Event O)) (W : Tree O) → x ≡ outcome_so_far early → React prog (at T c) (moves_of early) m x outs W → DoesJust prog (at T c) (moves_of early) m x outs W
      just x outs W e d = record {
        does = d;
        nothing_else = λ y told U b. one_reaction prog (at T c) (moves_of early) m x y outs told W U d (subst StopsByItself (sym e) (waits_stop (nat_lt (ended early) (begun early)) (outcome_of early Finished) (by_itself early Finished tt))) b;
      }

      -- with the moves until then
      before_there : (ev : Event O) (late : List (Event O)) → crossings ≡ early ++ ev ∷ late → IsUnended early → IsMove ev.what → (W : Tree O) × DoesJust prog (at T c) (moves_of early) m (outcome_so_far early) (outs_of early) W
      before_there ev late e u f =
          let g : At ev late = at_part ev late e in
          let d : React prog (at T c) (moves_of early) m (outcome_so_far early) (outs_of early) (after g.front (at T c)) =
          subst (λ l. React prog (at T c) (moves_of l) m (outcome_so_far l) (outs_of l) (after g.front (at T c))) g.fronts (reaction g.front g.back ev g.whole (reads_move ev.place ev.what g.passes f) (subst IsUnended (sym g.fronts) u)) in
          (after g.front (at T c), just (outcome_so_far early) (outs_of early) (after g.front (at T c)) refl d)

    module _ (early : List (Event O)) where
      waits_there : (ev : Event O) (late : List (Event O)) → crossings ≡ early ++ ev ∷ late → IsUnended early → IsAnswer ev.what → outcome_so_far early ≡ Waiting
      waits_there ev late e u f =
          let g : At early ev late = at_part early ev late e in
          ap outcome_so_far (sym g.fronts) ∙ so_far_past g.front (found_front g.front (ev ∷ g.back) (subst AreFound g.whole found)) ∙
          reacts_before.waits prog c (before T (visit t i w.events r)) (before V []) t i r g.front g.back ev w.visits refl refl g.whole (reads_move ev.place ev.what g.passes (answer_moves ev.what f)) f (unended g.front (subst IsUnended (sym g.fronts) u))

      -- with all moves of the record
      ends_there : (ev : Event O) (late : List (Event O)) → crossings ≡ early ++ ev ∷ late → IsUnended early → IsEnd ev.what → (W : Tree O) × DoesJust prog (at T c) (moves_of (early ++ ev ∷ late)) m Ended (outs_of early) W
      ends_there ev late e u f =
          let g : At early ev late = at_part early ev late e in
          let h : Ending ev = ending_of ev.place ev.what g.passes f in
          let whole : seen w ≡ g.front ++ event ev.place (Back h.height (Replied (Cut h.cause))) ∷ g.back = g.whole ∙ ap (λ y. g.front ++ y ∷ g.back) h.same in
          let d = reacts_before.ends prog c (before T (visit t i w.events r)) (before V []) t i r m g.front g.back ev.place h.height h.cause (moves_of late) w.visits refl refl whole h.out (unended g.front (subst IsUnended (sym g.fronts) u)) (steps_front (seen w) g.front (ev ∷ g.back) m g.whole steps) in
          let fronts : moves_of early ≡ moves_of g.front = ap moves_of (sym g.fronts) ∙ moves_front g.front (ev ∷ g.back) g.whole in
          let all : moves_of (early ++ ev ∷ late) ≡ moves_of g.front ++ Come (Replied (Cut h.cause)) ∷ moves_of late =
          moves_append early (ev ∷ late) ∙ ap (λ l. l ++ moves_of (ev ∷ late)) fronts ∙ ap (λ y. moves_of g.front ++ moves_of (y ∷ late)) h.same ∙ ap (λ k. moves_of g.front ++ where_none k (Come (Replied (Cut h.cause))) (moves_of late)) h.out in
          let outs : outs_of g.front ≡ outs_of early = sym (outs_past g.front) ∙ ap outs_of g.fronts in
          let b : React prog (at T c) (moves_of (early ++ ev ∷ late)) m Ended (outs_of early) d.0 =
          subst (λ ms. React prog (at T c) ms m Ended (outs_of early) d.0) (sym all) (subst (λ l. React prog (at T c) (moves_of g.front ++ Come (Replied (Cut h.cause)) ∷ moves_of late) m Ended l d.0) outs d.1) in
          let above : AreFromAbove (moves_of (early ++ ev ∷ late)) = subst AreFromAbove (sym (watching.same_moves goes prog T V o z t i c crossings r w n below there) ∙ ap moves_of e) (view_above c (visit t i w.events r)) in
          (d.0, record { does = b; nothing_else = λ y told U j. one_outcome prog (at T c) (moves_of (early ++ ev ∷ late)) m Ended y (outs_of early) told d.0 U above b j })

      inside_there : (ev : Event O) (late : List (Event O)) → crossings ≡ early ++ ev ∷ late → IsUnended early → IsTold ev.what →
          (front : List (Event O)) × (move : Event O) × (early ≡ front ++ move ∷ []) × IsMove move.what × (W : Tree O) × DoesJust prog (at T c) (moves_of front) m (outcome_so_far front) (outs_of early) W
      inside_there ev late e u f = by (behind false early ev late (subst (Alternate false) e alternates) f)
        where
          by : Behind false early →
              (front : List (Event O)) × (move : Event O) × (early ≡ front ++ move ∷ []) × IsMove move.what × (W : Tree O) × DoesJust prog (at T c) (moves_of front) m (outcome_so_far front) (outs_of early) W
          by (inl (g, h)) = not_both_ways false refl h
          by (inr (front, move, g, h)) =
              let d = before_there front move (ev ∷ late) (e ∙ ap (λ l. l ++ ev ∷ late) g ∙ append_assoc front (move ∷ []) (ev ∷ late)) (unended_front front (move ∷ []) (subst IsUnended g u)) h in
              (front, move, g, h, d.0, subst (λ outs. DoesJust prog (at T c) (moves_of front) m (outcome_so_far front) outs d.0) (sym (ap outs_of g ∙ move_outs front move h)) d.1)

      pub does_until : (late : List (Event O)) → crossings ≡ early ++ late → IsUnended early → DoesUntil prog (at T c) early late m
      does_until late e u = record {
        before = λ f. before_at late e f;
        waits = λ f. waits_at late e f;
        ends = λ f. ends_at late e f;
        inside = λ f. inside_at late e f;
        begins = λ x outs W d. watching.until goes prog T V o z t i c crossings r w n m early late x outs W below there e u enough d;
      }
        where
          before_at : (late : List (Event O)) → crossings ≡ early ++ late → StartsWith IsMove late → (W : Tree O) × DoesJust prog (at T c) (moves_of early) m (outcome_so_far early) (outs_of early) W
          before_at [] e f = absurd f
          before_at (ev ∷ late) e f = before_there early ev late e u f

          waits_at : (late : List (Event O)) → crossings ≡ early ++ late → StartsWith IsAnswer late → outcome_so_far early ≡ Waiting
          waits_at [] e f = absurd f
          waits_at (ev ∷ late) e f = waits_there ev late e u f

          inside_at : (late : List (Event O)) → crossings ≡ early ++ late → StartsWith IsTold late →
              (front : List (Event O)) × (move : Event O) × (early ≡ front ++ move ∷ []) × IsMove move.what × (W : Tree O) × DoesJust prog (at T c) (moves_of front) m (outcome_so_far front) (outs_of early) W
          inside_at [] e f = absurd f
          inside_at (ev ∷ late) e f = inside_there ev late e u f

          ends_at : (late : List (Event O)) → crossings ≡ early ++ late → StartsWith IsEnd late → (W : Tree O) × DoesJust prog (at T c) (moves_of (early ++ late)) m Ended (outs_of early) W
          ends_at [] e f = absurd f
          ends_at (ev ∷ late) e f = ends_there ev late e u f
