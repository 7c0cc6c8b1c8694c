-- Two records of two worlds.
use Rattle.std.proofs.Common.{◌≡◌, inl, inr, ℕ, ◌+◌, List, [], ◌∷◌, ◌++◌, Option, Some, None, length, refl, sym, ◌∙◌, ap, subst, arith, append-nil, append_assoc, length-append}
use Rattle.tcl_core.specs.Endings.{Reply}
use Rattle.tcl_core.specs.Entries.{Entry}
use Rattle.tcl_core.specs.Laws.{AtMove, IsUnended}
use Rattle.tcl_core.specs.Lives.{IsUncut, idle, never, put}
use Rattle.tcl_core.specs.Paths.{Path, Place, rise_to}
use Rattle.tcl_core.specs.Programs.{Prog, Table, Wait}
use Rattle.tcl_core.specs.Programs.Prog.{wait}
use Rattle.tcl_core.specs.Rules.{Derives}
use Rattle.tcl_core.specs.Runs.{Ending, World}
use Rattle.tcl_core.specs.Execution.{before, event}
use Rattle.tcl_core.specs.Trees.{Event, Move, Node, Tree, What, asked, at, at_top, where_none}
use Rattle.tcl_core.specs.Trees.Grants.{Budget}
use Rattle.tcl_core.specs.Trees.Move.{Born, Fall, Enter, Come}
use Rattle.tcl_core.specs.Trees.What.{In, Back, Made, Dropped, Unfound}
use Rattle.tcl_core.specs.Views.{inside_of, moves_of, steps_of}
use Rattle.tcl_core.proofs.Balance.{Owes, dones, ins, owes, view_dones, view_ins, visit_owes}
use Rattle.tcl_core.proofs.Budgets.{budgeted}
use Rattle.tcl_core.proofs.Conclusions.{determinism, lives_within}
use Rattle.tcl_core.proofs.Keeping.{KeepsSteps, derived_keep}
use Rattle.tcl_core.proofs.Lending.{moves_append}
use Rattle.tcl_core.proofs.MoreMoves.{asked_more}
use Rattle.tcl_core.proofs.Halts.{halted_tape}
use Rattle.tcl_core.proofs.Parting.{Beyond, Run_of, Stops, cut}
use Rattle.tcl_core.proofs.Reacting.{IsLasting, Lasting}
use Rattle.tcl_core.proofs.RuleLaws.{derived_runs, runs_derived}
use Rattle.tcl_core.proofs.Unended.{uncut}
use Rattle.tcl_core.proofs.Worlds.{first_part, living}
use Rattle.tcl_recorder.specs.Boundary.{past, past_the_top}
use Rattle.tcl_recorder.proofs.BoundaryLaws.{past_the_top_append}
use Rattle.tcl_isolation.specs.Visits.{IsBelowTheTop}
use Rattle.tcl_isolation.proofs.Records.{AreFound, IsFound, found_back, lasting_back, lasting_front, moves_past}
use Rattle.tcl_isolation.proofs.Watching.{Watched, found, life, remains, same_moves, seen, tape, unended_seen}

abbrev halted : Ending
halted = None

module _ {O : Type 0} where
  -- ## What reads a move is recorded

  abbrev Reads : Place → What O → Type 0
  Reads p x = (ms : List (Move O)) → (m : Move O) × (asked p x ms ≡ m ∷ ms)

  nothing_read : {A : Type 0} → (m : Move O) × ([] ≡ m ∷ []) → A
  nothing_read (m, e) = cc

  read_put : (o q : Option Place) (p : Place) (x : What O) (m : Move O) (τ : List (Event O)) → q ≡ o → ((k : Move O) × (where_none q m [] ≡ k ∷ [])) → put q p x τ ≡ event p x ∷ τ
  read_put None q p x m τ e f = ap (λ o. put o p x τ) e
  read_put (Some a) q p x m τ e f = nothing_read (f.0, sym (ap (λ o. where_none o m []) e) ∙ f.1)

  read_life : {A : Type 0} (p : Place) (m : Move O) → (p ≡ [] → Prim.⊥) → (k : Move O) × (at_top p m [] ≡ k ∷ []) → A
  read_life [] m f g = absurd (f refl)
  read_life (y ∷ p) m f g = nothing_read g

  read_past : (p : Place) (x : What O) (τ : List (Event O)) → IsFound x → Lasting p x → Reads p x → past p x τ ≡ event p x ∷ τ
  read_past p (Unfound t i c) τ n l f = absurd n
  read_past p (In h i) τ n l f = read_put (rise_to h p) (rise_to h p) p (In h i) (Enter p i) τ refl (f [])
  read_past p (Back h a) τ n l f = read_put (rise_to h p) (rise_to h p) p (Back h a) (Come a) τ refl (f [])
  read_past p (Made o s) τ n l f = read_life p (Born o s) l (f [])
  read_past p Dropped τ n l f = read_life p Fall l (f [])
  read_past p _ τ n l f = nothing_read (f [])

  at_move_past : (τ : List (Event O)) → AreFound τ → IsLasting τ → AtMove τ → AtMove (past_the_top τ)
  at_move_past [] n l f = tt
  at_move_past (ev ∷ τ) n l f = subst AtMove (sym (read_past ev.place ev.what (past_the_top τ) n.0 l.0 f)) f

  beyond_past : (left : List (Move O)) (τ : List (Event O)) → AreFound τ → IsLasting τ → Beyond left τ → AtMove (past_the_top τ)
  beyond_past left τ n l (inl e) = subst (λ σ. AtMove (past_the_top σ)) (sym e) tt
  beyond_past left τ n l (inr e) = at_move_past τ n l e.1

  -- ## What a run reads is what its happenings read

  abbrev Read : World O → World O → Type 0
  Read w u = (pre : List (Event O)) × (w.tape ≡ pre ++ u.tape) × (w.moves ≡ moves_of pre ++ u.moves)

  read_step : (w : World O) → KeepsSteps (Read w)
  read_step w u p x v due s (pre, f, g) =
      let ev : Event O = event p x in
      let m : moves_of (pre ++ ev ∷ []) ++ v.moves ≡ moves_of pre ++ u.moves =
      ap (λ l. l ++ v.moves) (moves_append pre (ev ∷ [])) ∙ append_assoc (moves_of pre) (asked p x []) v.moves ∙ ap (λ l. moves_of pre ++ l) (asked_more p x [] v.moves ∙ sym s.moves) in
      (pre ++ ev ∷ [], f ∙ ap (λ l. pre ++ l) s.tape ∙ sym (append_assoc pre (ev ∷ []) v.tape), g ∙ sym m)

  no_more : (xs : List (Move O)) → length xs ≡ 0 → xs ≡ []
  no_more [] e = refl
  no_more (x ∷ xs) e = absurd (omega (arith, e))

  -- the first moves are all that is read up to where one more is wanted
  all_read : (ms a left : List (Move O)) (whole made rest : List (Event O)) → ms ≡ moves_of made ++ left → moves_of whole ≡ ms ++ a → whole ≡ made ++ rest → Beyond left rest → moves_of made ≡ ms
  all_read ms a left whole made rest e m t (inr b) = sym (e ∙ ap (λ l. moves_of made ++ l) b.0 ∙ append-nil (moves_of made))
  all_read ms a left whole made rest e m t (inl b) =
      let same : moves_of made ≡ ms ++ a = ap moves_of (sym (t ∙ ap (λ l. made ++ l) b ∙ append-nil made)) ∙ m in
      let n : length (moves_of made) ≡ length ms + length a = ap length same ∙ length-append ms a in
      let k : length ms ≡ length (moves_of made) + length left = ap length e ∙ length-append (moves_of made) left in
      let none : length left ≡ 0 = omega arith in
      sym (e ∙ ap (λ l. moves_of made ++ l) (no_more left none) ∙ append-nil (moves_of made))

module _ {O I : Type 0} (prog : Table O I) where
  read_of : {w : World O} {p : Place} {x : Prog O I} {v : World O} {e : Ending} → Derives prog w p x v e → Read w v
  read_of {w} d = derived_keep (Read w) (read_step w) prog d ([], refl, refl)

module _ {O I S : Type 0} (goes : Tree O → S → Wait → Event O → S → Type 0) (prog : Table O I) (T V : Tree O) (o z : S) (t : Path) (i : Entry) (c : Place) (crossings : List (Event O)) (r : Reply) where
  abbrev One : Type 0
  One = Watched goes prog T V o z t i c crossings r

  abbrev happens : One → List (Event O)
  happens w = seen goes prog T V o z t i c crossings r w

  -- the subtree as a world of its own, under a budget that leaves k steps over
  abbrev pub first_of : ℕ → One → World O
  first_of k w = budgeted k (inside_of c (before T (tape goes prog T V o z t i c crossings r w)))

  abbrev pub last_of : ℕ → World O
  last_of k = budgeted k (inside_of c (before V []))

  within_uncut : (w : One) → IsUnended crossings → IsUncut (happens w)
  within_uncut w u =
      let l = lives_within prog c (before T (tape goes prog T V o z t i c crossings r w)) (before V []) (life goes prog T V o z t i c crossings r w) in
      uncut prog (runs_derived prog (inside_of c (before T (tape goes prog T V o z t i c crossings r w))) [] (wait idle never) (inside_of c (before V [])) None l) (unended_seen goes prog T V o z t i c crossings r w u) tt tt

  within_done : (w : One) → ins [] (happens w) ≡ dones [] (happens w)
  within_done w =
      let a = w.visits in
      let b : Owes c (before T (tape goes prog T V o z t i c crossings r w)) (before V []) (Some r) =
      visit_owes c (before T (tape goes prog T V o z t i c crossings r w)) a.entered a.left (before V []) None t i r a.entry (owes c prog (runs_derived prog a.entered t (prog.entry i) a.left (Some r) a.run)) a.leaving in
      let s : ins c (tape goes prog T V o z t i c crossings r w) + 0 ≡ dones c (tape goes prog T V o z t i c crossings r w) + 0 + b.open_ins = b.sum in
      let n : b.open_ins ≡ 0 = b.none_left r refl in
      let e : ins c (tape goes prog T V o z t i c crossings r w) ≡ dones c (tape goes prog T V o z t i c crossings r w) = omega arith in
      view_ins c (tape goes prog T V o z t i c crossings r w) ∙ e ∙ sym (view_dones c (tape goes prog T V o z t i c crossings r w))

  pub lived : (w : One) (n : Node O) (k : ℕ) → IsBelowTheTop c → T c ≡ Some n → IsUnended crossings → Derives prog (first_of k w) [] (wait idle never) (last_of k) None
  lived w n k f e u =
      let l = lives_within prog c (before T (tape goes prog T V o z t i c crossings r w)) (before V []) (life goes prog T V o z t i c crossings r w) in
      living prog k l.0 (inside_of c (before T (tape goes prog T V o z t i c crossings r w))) (inside_of c (before V [])) refl (remains goes prog T V o z t i c crossings r w n f e) (within_uncut w u) (within_done w) refl l.1

  -- with the first moves alone: what happens until one more is read
  pub record Begins (w : One) (k : ℕ) (ms : List (Move O)) : Type 0 where
    pub made : List (Event O)
    pub rest : List (Event O)
    pub last : World O
    pub whole : happens w ≡ made ++ rest
    pub runs : Derives prog (cut (first_of k w) ms made) [] (wait idle never) last None
    pub reads : moves_of made ≡ ms
    pub record_reads : moves_of (past_the_top made) ≡ ms
    pub beyond : AtMove (past_the_top rest)

  pub begins : (w : One) (n : Node O) (k : ℕ) (ms a : List (Move O)) → IsBelowTheTop c → T c ≡ Some n → IsUnended crossings → moves_of crossings ≡ ms ++ a → Begins w k ms
  begins w n k ms a f e u m =
      let j : moves_of (happens w) ≡ ms ++ a = sym (same_moves goes prog T V o z t i c crossings r w n f e) ∙ m in
      let g : Stops (first_of k w) (Run_of prog (first_of k w) ms [] (wait idle never)) = first_part prog (first_of k w) (last_of k) ms a (lived w n k f e u) j in
      let q : Read (cut (first_of k w) ms g.made) g.last = read_of prog g.runs in
      let over : g.last.tape ≡ [] = halted_tape prog g.runs refl in
      let same : g.made ≡ q.0 = q.1 ∙ ap (λ l. q.0 ++ l) over ∙ append-nil q.0 in
      let split : ms ≡ moves_of g.made ++ g.last.moves = q.2 ∙ ap (λ l. moves_of l ++ g.last.moves) (sym same) in
      let all : moves_of g.made ≡ ms = all_read ms a g.last.moves (happens w) g.made g.rest split j g.tape g.beyond in
      let lasting : IsLasting (g.made ++ g.rest) = subst IsLasting g.tape (remains goes prog T V o z t i c crossings r w n f e) in
      record {
        made = g.made;
        rest = g.rest;
        last = g.last;
        whole = g.tape;
        runs = g.runs;
        reads = all;
        record_reads = moves_past g.made (lasting_front g.made g.rest lasting) ∙ all;
        beyond = beyond_past g.last.moves g.rest (found_back g.made g.rest (subst AreFound g.tape (found goes prog T V o z t i c crossings r w f))) (lasting_back g.made g.rest lasting) g.beyond;
      }

  -- a record in two
  pub in_two : (w : One) (front back : List (Event O)) → happens w ≡ front ++ back → crossings ≡ past_the_top front ++ past_the_top back
  in_two w front back e = w.recorded ∙ ap past_the_top e ∙ past_the_top_append front back

module _ {O I S R : Type 0} (goes : Tree O → S → Wait → Event O → S → Type 0) (goes2 : Tree O → R → Wait → Event O → R → Type 0) (prog : Table O I)
    (T V T2 V2 : Tree O) (o z : S) (o2 z2 : R) (t t2 : Path) (i i2 : Entry) (c d : Place) (xs ys : List (Event O)) (r r2 : Reply) (n : Node O) where
  abbrev First : Type 0
  First = Watched goes prog T V o z t i c xs r

  abbrev Second : Type 0
  Second = Watched goes2 prog T2 V2 o2 z2 t2 i2 d ys r2

  there : T c ≡ Some n → at T c ≡ at T2 d → T2 d ≡ Some n
  there e same = ap T2 (sym (append-nil d)) ∙ sym (ap (λ U. U []) same) ∙ ap T (append-nil c) ∙ e

  steps_first : First → ℕ
  steps_first w = steps_of (seen goes prog T V o z t i c xs r w)

  steps_second : Second → ℕ
  steps_second y = steps_of (seen goes2 prog T2 V2 o2 z2 t2 i2 d ys r2 y)

  pub all_agree : (w : First) (y : Second) → IsBelowTheTop c → T c ≡ Some n → IsUnended xs → IsBelowTheTop d → IsUnended ys → at T c ≡ at T2 d → moves_of xs ≡ moves_of ys →
      (xs ≡ ys) × (at V c ≡ at V2 d)
  unfolding steps_first steps_second
  all_agree w y f e u f2 u2 same m =
      let n1 : ℕ = steps_first w in
      let m1 : ℕ = steps_second y in
      let d1 : Derives prog (first_of goes prog T V o z t i c xs r m1 w) [] (wait idle never) (last_of goes prog T V o z t i c xs r m1) None = lived goes prog T V o z t i c xs r w n m1 f e u in
      let d2 : Derives prog (first_of goes2 prog T2 V2 o2 z2 t2 i2 d ys r2 n1 y) [] (wait idle never) (last_of goes2 prog T2 V2 o2 z2 t2 i2 d ys r2 n1) None = lived goes2 prog T2 V2 o2 z2 t2 i2 d ys r2 y n n1 f2 (there e same) u2 in
      let sum : n1 + m1 ≡ m1 + n1 = omega arith in
      let ms : moves_of (seen goes prog T V o z t i c xs r w) ≡ moves_of (seen goes2 prog T2 V2 o2 z2 t2 i2 d ys r2 y) =
      sym (same_moves goes prog T V o z t i c xs r w n f e) ∙ m ∙ same_moves goes2 prog T2 V2 o2 z2 t2 i2 d ys r2 y n f2 (there e same) in
      let h : (seen goes prog T V o z t i c xs r w ≡ seen goes2 prog T2 V2 o2 z2 t2 i2 d ys r2 y) × (last_of goes prog T V o z t i c xs r m1 ≡ last_of goes2 prog T2 V2 o2 z2 t2 i2 d ys r2 n1) × (halted ≡ halted) =
      determinism prog (first_of goes prog T V o z t i c xs r m1 w) (first_of goes2 prog T2 V2 o2 z2 t2 i2 d ys r2 n1 y) [] (wait idle never)
      (last_of goes prog T V o z t i c xs r m1) (last_of goes2 prog T2 V2 o2 z2 t2 i2 d ys r2 n1) None None same ms (ap Budget sum) (derived_runs prog d1) (derived_runs prog d2) refl refl in
      (w.recorded ∙ ap past_the_top h.0 ∙ sym y.recorded, ap (λ u. u.tree) h.1)

  pub two_worlds : (w : First) (y : Second) (ms a b : List (Move O)) → IsBelowTheTop c → T c ≡ Some n → IsUnended xs → IsBelowTheTop d → IsUnended ys → at T c ≡ at T2 d → moves_of xs ≡ ms ++ a → moves_of ys ≡ ms ++ b →
      (same : List (Event O)) × (rest1 : List (Event O)) × (rest2 : List (Event O)) × (xs ≡ same ++ rest1) × (ys ≡ same ++ rest2) × (moves_of same ≡ ms) × AtMove rest1 × AtMove rest2
  unfolding steps_first steps_second
  two_worlds w y ms a b f e u f2 u2 same m m2 =
      let n1 : ℕ = steps_first w in
      let m1 : ℕ = steps_second y in
      let g1 : Begins goes prog T V o z t i c xs r w m1 ms = begins goes prog T V o z t i c xs r w n m1 ms a f e u m in
      let g2 : Begins goes2 prog T2 V2 o2 z2 t2 i2 d ys r2 y n1 ms = begins goes2 prog T2 V2 o2 z2 t2 i2 d ys r2 y n n1 ms b f2 (there e same) u2 m2 in
      let sum : n1 + m1 ≡ m1 + n1 = omega arith in
      let h : (g1.made ≡ g2.made) × (g1.last ≡ g2.last) × (halted ≡ halted) =
      determinism prog (cut (first_of goes prog T V o z t i c xs r m1 w) ms g1.made) (cut (first_of goes2 prog T2 V2 o2 z2 t2 i2 d ys r2 n1 y) ms g2.made) [] (wait idle never) g1.last g2.last None None same refl (ap Budget sum)
      (derived_runs prog g1.runs) (derived_runs prog g2.runs) (halted_tape prog g1.runs refl) (halted_tape prog g2.runs refl) in (
        past_the_top g1.made,
        past_the_top g1.rest,
        past_the_top g2.rest,
        in_two goes prog T V o z t i c xs r w g1.made g1.rest g1.whole,
        in_two goes2 prog T2 V2 o2 z2 t2 i2 d ys r2 y g2.made g2.rest g2.whole ∙ ap (λ l. past_the_top l ++ past_the_top g2.rest) (sym h.0),
        g1.record_reads,
        g1.beyond,
        g2.beyond,
      )
