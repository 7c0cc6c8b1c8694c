-- What a subtree does by itself with the moves until control comes in, and with an end from outside behind them.
use Rattle.std.proofs.Common.{sym, ◌≡◌, ℕ, suc, ◌+◌, ◌-◌, List, [], ◌∷◌, ◌++◌, None, refl, ◌∙◌, ap, subst, arith, append_assoc}
use Rattle.tcl_core.specs.Paths.{Place, Height, rise_to}
use Rattle.tcl_core.specs.Endings.{Cause}
use Rattle.tcl_core.specs.Endings.Reply.{Cut}
use Rattle.tcl_core.specs.Entries.Answer.{Replied}
use Rattle.tcl_core.specs.Execution.{event}
use Rattle.tcl_core.specs.Laws.{IsUnended, ReadsMove, after}
use Rattle.tcl_core.specs.Lives.{IsUncut, Lives, React, Reacts, alone, begun, ended, idle, never, outs_of}
use Rattle.tcl_core.specs.Lives.Outcome.{Ended}
use Rattle.tcl_core.specs.Lives.Reacts.{ended_so}
use Rattle.tcl_core.specs.Programs.{Table}
use Rattle.tcl_core.specs.Programs.Prog.{wait}
use Rattle.tcl_core.specs.Rules.{Derives}
use Rattle.tcl_core.specs.Runs.{World}
use Rattle.tcl_core.specs.Trees.{Event, Move, Tree, at}
use Rattle.tcl_core.specs.Trees.Grants.{Budget}
use Rattle.tcl_core.specs.Trees.Move.{Come}
use Rattle.tcl_core.specs.Trees.What.{Back}
use Rattle.tcl_core.specs.Views.{inside_of, moves_of, steps_of, view}
use Rattle.tcl_core.proofs.Conclusions.{lives_within}
use Rattle.tcl_core.proofs.Parting.{back_reads}
use Rattle.tcl_core.proofs.Reacting.{life_of}
use Rattle.tcl_core.proofs.RuleLaws.{derived_runs, runs_derived}
use Rattle.tcl_core.proofs.Unended.{uncut}
use Rattle.tcl_reactions.specs.Laws.{ReactsBefore, outcome_so_far}
use Rattle.tcl_reactions.proofs.Before.{entries_open, in_progress, is_open, life_paused, so_far}
use Rattle.tcl_reactions.proofs.Exiting.{IsExitBack, Obeys, exiting, obeyed}
use Rattle.tcl_reactions.proofs.Paused.{lent}
use Rattle.tcl_reactions.proofs.Unwinding.{NoExitLast, Stood, stood}
use Rattle.tcl_reactions.proofs.Unwinding.Stood.{quiet, ends}

module _ {O I : Type 0} (prog : Table O I) (k : ℕ) (p : Place) (h : Height) (x : Cause) (late : List (Event O)) (out : rise_to h p ≡ None) where
  abbrev next : Event O
  next = event p (Back h (Replied (Cut x)))

  reads : ReadsMove next
  reads ms = (Come (Replied (Cut x)), sym (back_reads prog p h (Replied (Cut x)) out ms))

  abbrev given : Tree O → List (Event O) → World O
  given T a = lent k next late T a

  -- no entry that exits is the last before an end from outside
  no_exit : (z y : World O) (a : List (Event O)) → Lives prog z y None → y.tape ≡ [] → z.tape ≡ a ++ next ∷ late → NoExitLast (given z.tree a)
  no_exit z y a l f t front ev e q =
      let o : Obeys z.tape = exiting prog (runs_derived prog z [] (wait idle never) y None l) (subst Obeys (sym f) tt) in
      let g : z.tape ≡ front ++ ev ∷ (next ∷ late) = t ∙ ap (λ j. j ++ next ∷ late) q ∙ append_assoc front (ev ∷ []) (next ∷ late) in
      let n : IsExitBack next.what = obeyed front ev next late (subst Obeys g o) e in
      n

  -- the subtree by itself is ended
  ended_there : (z y : World O) (a : List (Event O)) (more : List (Move O)) → Lives prog z y None → y.tape ≡ [] → z.tape ≡ a ++ next ∷ late → IsUnended a → (V : Tree O) × React prog z.tree (moves_of a ++ Come (Replied (Cut x)) ∷ more) (steps_of a + k) Ended (outs_of a) V
  ended_there z y a more l f t une = by (stood prog k r.0 (given z.tree a) (given (after a z.tree) []) refl left_of (no_exit z y a l f t) r.1)
    where
      d : Derives prog (given z.tree a) [] (wait idle never) (given (after a z.tree) []) None
      d = life_paused prog k next late reads z y a l f t une

      r : Lives prog (given z.tree a) (given (after a z.tree) []) None
      r = derived_runs prog d

      left_of : (given (after a z.tree) []).grants ≡ Budget k
      left_of = let e : 0 + k ≡ k = omega arith in ap Budget e

      entries : (j : ℕ) × (begun a ≡ ended a + suc j)
      entries = entries_open prog k next late reads tt z y a l f t une

      no_entries : {A : Type 0} → begun a ≡ ended a → A
      no_entries e = let g : begun a ≡ ended a + suc entries.0 = entries.1 in absurd (let n : Prim.⊥ = omega (arith, e) in n)

      by : Stood prog (given z.tree a) (given (after a z.tree) []).grants → (V : Tree O) × React prog z.tree (moves_of a ++ Come (Replied (Cut x)) ∷ more) (steps_of a + k) Ended (outs_of a) V
      by (quiet e) = no_entries e
      by (ends j σ U e u) = (
        U,
        record {
          tape = a;
          last = record { tree = U; moves = []; grants = (given (after a z.tree) []).grants; tape = [] };
          run = ended_so (alone z.tree (moves_of a ++ Come (Replied (Cut x)) ∷ more) (steps_of a + k) a) (given (after a z.tree) []) (record { tree = U; moves = []; grants = (given (after a z.tree) []).grants; tape = [] }) j (moves_of a) x more (a ++ σ) refl r refl (uncut prog d une tt tt) e (derived_runs prog u) refl;
          told = refl;
          left = refl;
        },
      )

module _ {O I : Type 0} where
  pub reacts_before : ReactsBefore O I
  reacts_before = record {
    reacts =
        λ prog c w v t i r m early late next a e f q rd une le.
        let k : ℕ = m - steps_of early in
        let g : m ≡ steps_of early + k = omega (arith, le) in
        let l : Lives prog (inside_of c w) (inside_of c v) None = lives_within prog c w v (life_of prog w v t i r a e f) in
        let d : Derives prog (lent k next late (at w.tree c) early) [] (wait idle never) (lent k next late (after early (at w.tree c)) []) None = life_paused prog k next late rd (inside_of c w) (inside_of c v) early l (ap (view c) f) q une in
        let u : IsUncut early = uncut prog d une tt tt in
        let b : (j : ℕ) × (begun early ≡ ended early + j) = in_progress prog k next late rd (at w.tree c) (after early (at w.tree c)) early [] (wait idle never) d in
        record {
          tape = early;
          last = lent k next late (after early (at w.tree c)) [];
          run = subst (λ n. Reacts prog (alone (at w.tree c) (moves_of early) n early) (lent k next late (after early (at w.tree c)) []) (outcome_so_far early)) (sym g) (so_far prog k next late rd (at w.tree c) early b.0 d u b.1);
          told = refl;
          left = refl;
        };
    waits =
        λ prog c w v t i r early late next a e f q rd ans une.
        is_open prog 0 next late rd ans (inside_of c w) (inside_of c v) early (lives_within prog c w v (life_of prog w v t i r a e f)) (ap (view c) f) q une;
    ends =
        λ prog c w v t i r m early late p h x more a e f q out une le.
        let k : ℕ = m - steps_of early in
        let g : m ≡ steps_of early + k = omega (arith, le) in
        let b : (V : Tree O) × React prog (at w.tree c) (moves_of early ++ Come (Replied (Cut x)) ∷ more) (steps_of early + k) Ended (outs_of early) V =
        ended_there prog k p h x late out (inside_of c w) (inside_of c v) early more (lives_within prog c w v (life_of prog w v t i r a e f)) (ap (view c) f) q une in
        (b.0, subst (λ n. React prog (at w.tree c) (moves_of early ++ Come (Replied (Cut x)) ∷ more) n Ended (outs_of early) b.0) (sym g) b.1);
  }
