-- What a subtree does by itself, up to where control comes in.
use Rattle.std.proofs.Common.{sym, ◌≡◌, ℕ, zero, suc, ◌≤◌, ◌<◌, ◌+◌, true, false, nat_lt, List, [], ◌∷◌, ◌++◌, Option, Some, None, refl, ◌∙◌, ap, subst, arith}
use Rattle.std.proofs.lemmas.Bool.Decides.{nat_tests}
use Rattle.tcl_core.specs.Paths.{Place, rise_to, Path}
use Rattle.tcl_core.specs.Endings.{Reply}
use Rattle.tcl_core.specs.Endings.Reply.{Completed, Stop, Exit, Cut}
use Rattle.tcl_core.specs.Entries.{Entry}
use Rattle.tcl_core.specs.Execution.{event}
use Rattle.tcl_core.specs.Laws.{IsUnended, ReadsMove, after}
use Rattle.tcl_core.specs.Lives
use Rattle.tcl_core.specs.Lives.{AllRead, IsUncut, Lives, Outcome, React, Reacts, alone, begun, begun_at, ended, ended_at, idle, never, outcome_of, outs_of}
use Rattle.tcl_core.specs.Lives.Outcome.{Finished, Waiting}
use Rattle.tcl_core.specs.Lives.Reacts.{over, waiting}
use Rattle.tcl_core.specs.Programs.{Table}
use Rattle.tcl_core.specs.Programs.Prog.{wait}
use Rattle.tcl_core.specs.Rules.{Derives}
use Rattle.tcl_core.specs.Runs.{Step, RunsIn, Stays, Waits, World, Enters}
use Rattle.tcl_core.specs.Trees.{Event, Move, Tree, What, Node}
use Rattle.tcl_core.specs.Trees.Move.{Born, Fall, Enter, Come}
use Rattle.tcl_core.specs.Trees.What.{Made, Dropped, In, Done, Unfound}
use Rattle.tcl_core.proofs.Balance
use Rattle.tcl_core.proofs.Balance.{Owes, done_at, dones, in_at, ins, owes}
use Rattle.tcl_core.proofs.Halts.{halted_tape}
use Rattle.tcl_core.proofs.MoreMoves.{none_not}
use Rattle.tcl_core.proofs.Reacting.{exits_idle}
use Rattle.tcl_core.proofs.RuleLaws.{derived_runs, runs_derived}
use Rattle.tcl_reactions.specs.Laws.{IsAnswer, outcome_so_far, waits_if}
use Rattle.tcl_reactions.proofs.Paused.{Paused, done_not_cut, lent, no_more, paused, peeled}
use Rattle.tcl_reactions.proofs.Paused.Part.{whole, gone, stops}

-- ## Entries that begin and end

all_read : (O : Type 0) (x : Outcome) → AllRead {O = O} x []
all_read O Outcome.Finished = refl
all_read O Outcome.Waiting = refl
all_read O Outcome.Ended = refl
all_read O (Outcome.Exited n) = tt
all_read O Outcome.Spent = refl
all_read O Outcome.Misfit = refl

-- where as many entries ended as began no call is open, and else one is
all_ended : {O : Type 0} (a : List (Event O)) → begun a ≤ ended a → outcome_so_far a ≡ outcome_of a Finished
all_ended a l =
    let f : nat_lt (ended a) (begun a) ≡ false = grind (arith, nat_tests) in
    ap (λ b. waits_if b (outcome_of a Finished)) f

one_waits : {O : Type 0} (a : List (Event O)) → ended a < begun a → outcome_so_far a ≡ Waiting
one_waits a l =
    let f : nat_lt (ended a) (begun a) ≡ true = grind (arith, nat_tests) in
    ap (λ b. waits_if b (outcome_of a Finished)) f

module _ {O : Type 0} where
  pub begun_ins : (τ : List (Event O)) → begun τ ≡ ins [] τ
  begun_ins [] = refl
  begun_ins (ev ∷ τ) = step ev.place ev.what (begun τ) (ins [] τ) (begun_ins τ)
    where
      more : (o : Option Place) (n m : ℕ) → n ≡ m → Lives.one_more o n ≡ Balance.one_more o m
      more None n m e = ap suc e
      more (Some a) n m e = e

      step : (p : Place) (x : What O) (n m : ℕ) → n ≡ m → begun_at p x n ≡ in_at [] p x m
      step p (In h i) n m e = more (rise_to h p) n m e
      step p x n m e = e

  pub ended_dones : (τ : List (Event O)) → ended τ ≡ dones [] τ
  ended_dones [] = refl
  ended_dones (ev ∷ τ) = step ev.place ev.what (ended τ) (dones [] τ) (ended_dones τ)
    where
      more : (o : Option Place) (n m : ℕ) → n ≡ m → Lives.one_more o n ≡ Balance.one_more o m
      more None n m e = ap suc e
      more (Some a) n m e = e

      step : (p : Place) (x : What O) (n m : ℕ) → n ≡ m → ended_at p x n ≡ done_at [] p x m
      step p (Done h r) n m e = more (rise_to h p) n m e
      step p x n m e = e

module _ {O I : Type 0} (prog : Table O I) (k : ℕ) (next : Event O) (late : List (Event O)) (reads : ReadsMove next) where
  abbrev given : Tree O → List (Event O) → World O
  given T a = lent k next late T a

  abbrev Meets : World O → List (Event O) → Type 0
  Meets w a = w.tape ≡ a ++ next ∷ late

  -- a life stops there
  pub life_paused : (w v : World O) (a : List (Event O)) → Lives prog w v None → v.tape ≡ [] → Meets w a → IsUnended a → Derives prog (given w.tree a) [] (wait idle never) (given (after a w.tree) []) None
  life_paused w v a l f t n = by (paused prog k next late reads (runs_derived prog w [] (wait idle never) v None l) a t n)
    where
      by : Paused prog k next late reads w [] (wait idle never) v None a → Derives prog (given w.tree a) [] (wait idle never) (given (after a w.tree) []) None
      by (whole a1 q m g d) = no_more k next late v a1 f q
      by (gone c a1 q m e g) = absurd (none_not (Cut c) e)
      by (stops d) = d

  -- so many entries are in progress then
  pub in_progress : (S V : Tree O) (a : List (Event O)) (p : Place) (x : Rattle.tcl_core.specs.Programs.Prog O I) → Derives prog (given S a) p x (given V []) None → (j : ℕ) × (begun a ≡ ended a + j)
  in_progress S V a p x d =
      let o : Owes [] (given S a) (given V []) None = owes [] prog d in
      let s : ins [] a + 0 ≡ dones [] a + 0 + o.open_ins = o.sum in
      let b : begun a ≡ ins [] a = begun_ins a in
      let e : ended a ≡ dones [] a = ended_dones a in
      (o.open_ins, (let z : begun a ≡ ended a + o.open_ins = omega arith in z))

  -- what a subtree does by itself, with j entries in progress at the end
  pub so_far : (S : Tree O) (a : List (Event O)) (j : ℕ) → Derives prog (given S a) [] (wait idle never) (given (after a S) []) None → IsUncut a → begun a ≡ ended a + j → Reacts prog (given S a) (given (after a S) []) (outcome_so_far a)
  so_far S a zero d u e =
      let f : outcome_so_far a ≡ outcome_of a Finished = all_ended a (omega (arith, e)) in
      over (given S a) (given (after a S) []) (outcome_so_far a) (derived_runs prog d) u e f (all_read O (outcome_so_far a))
  so_far S a (suc j) d u e =
      let f : outcome_so_far a ≡ Waiting = one_waits a (omega (arith, e)) in
      subst (λ x. Reacts prog (given S a) (given (after a S) []) x) (sym f) (waiting (given S a) (given (after a S) []) j (derived_runs prog d) u e refl)

  -- ## Where an answer comes, an entry is in progress

  module _ (answers : IsAnswer next.what) where
    Open : List (Event O) → Type 0
    Open a = (j : ℕ) × (begun a ≡ ended a + suc j)

    -- what isn't an answer comes before it
    passed : (w : World O) (p : Place) (x : What O) (u : World O) (a : List (Event O)) → Step w p x u → (IsAnswer x → Prim.⊥) → Meets w a → IsUnended a → (a1 : List (Event O)) × (a ≡ event p x ∷ a1) × Meets u a1 × IsUnended a1
    passed w p x u [] s f t n =
        let h : next ∷ late ≡ event p x ∷ u.tape = sym t ∙ s.tape in
        let one : next ≡ event p x = cc in
        absurd (f (subst (λ y. IsAnswer y.what) one answers))
    passed w p x u (ev ∷ a) s f t n =
        let h : ev ∷ (a ++ next ∷ late) ≡ event p x ∷ u.tape = sym t ∙ s.tape in
        let one : ev ≡ event p x = cc in
        let r : u.tape ≡ a ++ next ∷ late = cc in
        (a, ap (λ y. y ∷ a) one, r, n.1)

    entered_none : (w inner left : World O) (t : Place) (i : Entry) (a : List (Event O)) → Derives prog inner t (prog.entry i) left None → Meets inner a → IsUnended a → Open (event t (In None i) ∷ a)
    unfolding Open
    entered_none w inner left t i a d q n = by (paused prog k next late reads d a q n)
      where
        by : Paused prog k next late reads inner t (prog.entry i) left None a → Open (event t (In None i) ∷ a)
        by (whole a1 q1 m g h) = no_more k next late left a1 (halted_tape prog d refl) q1
        by (gone c a1 q1 m e g) = none_not (Cut c) e
        by (stops h) = let b = in_progress inner.tree (after a inner.tree) a t (prog.entry i) h in let c : begun a ≡ ended a + b.0 = b.1 in (b.0, (let e : suc (begun a) ≡ ended a + suc b.0 = omega arith in e))

    entered_some : (w inner left told : World O) (t : Place) (i : Entry) (r : Reply) (a : List (Event O)) → Derives prog inner t (prog.entry i) left (Some r) → Step left t (Done None r) told → Meets inner a → IsUnended a →
        ((a1 : List (Event O)) → Meets told a1 → IsUnended a1 → Open a1) → Open (event t (In None i) ∷ a)
    unfolding Open
    entered_some w inner left told t i r a d s q n rest = by (paused prog k next late reads d a q n)
      where
        by : Paused prog k next late reads inner t (prog.entry i) left (Some r) a → Open (event t (In None i) ∷ a)
        by (whole a1 q1 m g h) =
            let p = peeled k next late reads left t (Done None r) told a1 s (λ ms. refl) q1 m in
            let o : Owes [] (given inner.tree a) (given left.tree a1) (Some r) = owes [] prog h in
            let z : o.open_ins ≡ 0 = o.none_left r refl in
            let f : ins [] a + dones [] a1 ≡ dones [] a + ins [] a1 + o.open_ins = o.sum in
            let j = rest p.0 p.1 p.3 in
            let b : begun p.0 ≡ ended p.0 + suc j.0 = j.1 in
            let b1 : begun a1 ≡ begun p.0 = ap begun p.4 in
            let e1 : ended a1 ≡ suc (ended p.0) = ap ended p.4 in
            let i0 : begun a ≡ ins [] a = begun_ins a in
            let i1 : begun a1 ≡ ins [] a1 = begun_ins a1 in
            let d0 : ended a ≡ dones [] a = ended_dones a in
            let d1 : ended a1 ≡ dones [] a1 = ended_dones a1 in
            (j.0, (let e : suc (begun a) ≡ ended a + suc j.0 = omega arith in e))
        by (gone c a1 q1 m e g) = let p = peeled k next late reads left t (Done None r) told a1 s (λ ms. refl) q1 m in done_not_cut O t r c p.2 e
        by (stops h) = let b = in_progress inner.tree (after a inner.tree) a t (prog.entry i) h in let c : begun a ≡ ended a + b.0 = b.1 in (b.0, (let e : suc (begun a) ≡ ended a + suc b.0 = omega arith in e))

    Opens : ℕ → Type 0
    Opens n = (z y : World O) (a : List (Event O)) → Meets z a → IsUnended a → y.tape ≡ [] → RunsIn prog n z [] (wait idle never) y None → Open a

    after_entry : (n : ℕ) → Opens n → (u y : World O) (r : Reply) (a : List (Event O)) → Meets u a → IsUnended a → y.tape ≡ [] → Stays (RunsIn prog n) u [] idle never (Some r) y None → Open a
    unfolding Opens
    after_entry n ih u y (Completed c) a t m f s = ih u y a t m f s
    after_entry n ih u y (Stop l x) a t m f s = ih u y a t m f s
    after_entry n ih u y (Cut c) a t m f s = ih u y a t m f s
    after_entry n ih u y (Exit l) a t m f s = no_more k next late u a (exits_idle u l u.moves y s).tape t

    open_entry : (n : ℕ) → Opens n → (z y : World O) (a : List (Event O)) → Meets z a → IsUnended a → y.tape ≡ [] → (q : Path) (i : Entry) (x : Option (Node O)) → Enters prog (RunsIn prog n) z [] idle never q i x y None → Open a
    unfolding Opens Open
    open_entry n ih z y a t m f q i None (u, st, h) = let p = passed z [] (Unfound q i (prog.lost q)) u a st (λ j. j) t m in subst Open (sym p.1) (ih u y p.0 p.2 p.3 f h)
    open_entry n ih z y a t m f q i (Some x) (u, None, v, s) =
        let p = passed z q (In None i) v.entered a v.entry (λ j. j) t m in
        subst Open (sym p.1) (entered_none z v.entered v.left q i p.0 (runs_derived prog v.entered q (prog.entry i) v.left None (n, v.run)) p.2 p.3)
    open_entry n ih z y a t m f q i (Some x) (u, Some r, v, s) =
        let p = passed z q (In None i) v.entered a v.entry (λ j. j) t m in
        subst Open (sym p.1) (entered_some z v.entered v.left u q i r p.0 (runs_derived prog v.entered q (prog.entry i) v.left (Some r) (n, v.run)) v.leaving p.2 p.3 (λ a1 t1 n1. after_entry n ih u y r a1 t1 n1 f s))

    open_next : (n : ℕ) → Opens n → (z y : World O) (a : List (Event O)) → Meets z a → IsUnended a → y.tape ≡ [] → (ms : List (Move O)) → Waits prog (RunsIn prog n) z [] idle never ms y None → Open a
    unfolding Opens Open
    open_next n ih z y a t m f [] h = no_more k next late z a h.tape t
    open_next n ih z y a t m f (Come x ∷ ms) h = no_more k next late z a h.tape t
    open_next n ih z y a t m f (Born o s ∷ ms) (u, st, h) = let p = passed z [] (Made o s) u a st (λ j. j) t m in subst Open (sym p.1) (ih u y p.0 p.2 p.3 f h)
    open_next n ih z y a t m f (Fall ∷ ms) (u, st, h) = let p = passed z [] Dropped u a st (λ j. j) t m in subst Open (sym p.1) (ih u y p.0 p.2 p.3 f h)
    open_next n ih z y a t m f (Enter q i ∷ ms) h = open_entry n ih z y a t m f q i (z.tree q) h

    opens : (n : ℕ) → Opens n
    unfolding Opens
    opens zero z y a t m f g = absurd g
    opens (suc n) z y a t m f (g, h) = open_next n (opens n) z y a t m f z.moves h

    pub entries_open : (z y : World O) (a : List (Event O)) → Lives prog z y None → y.tape ≡ [] → Meets z a → IsUnended a → (j : ℕ) × (begun a ≡ ended a + suc j)
    unfolding Opens Open
    entries_open z y a l f t m = opens l.0 z y a t m f l.1

    pub is_open : (z y : World O) (a : List (Event O)) → Lives prog z y None → y.tape ≡ [] → Meets z a → IsUnended a → outcome_so_far a ≡ Waiting
    is_open z y a l f t m =
        let j : (j : ℕ) × (begun a ≡ ended a + suc j) = entries_open z y a l f t m in
        one_waits a (let e : begun a ≡ ended a + suc j.0 = j.1 in omega arith)
