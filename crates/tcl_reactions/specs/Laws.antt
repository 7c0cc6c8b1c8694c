-- The laws of playing. The first holds whatever the commands are: `prog` is their table.
use Rattle.std.specs.Prelude.{◌≡◌, ◌⊎◌, ◌≤◌, ℕ, ℤ, Bool, true, false, nat_lt, List, [], ◌∷◌, ◌++◌}
use Rattle.std.specs.Prelude.{Some, None}
use Rattle.tcl_core.specs.Paths.{Path, Place, Height, rise_to}
use Rattle.tcl_core.specs.Endings.{Cause, Completion, Reply}
use Rattle.tcl_core.specs.Endings.Meter.{Count}
use Rattle.tcl_core.specs.Endings.Cause.{Over}
use Rattle.tcl_core.specs.Endings.Reply.{Exit, Cut}
use Rattle.tcl_core.specs.Entries.{Entry, Answer}
use Rattle.tcl_core.specs.Entries.Answer.{Replied}
use Rattle.tcl_core.specs.Trees.{Event, Tree, Move, What, at, depth_of}
use Rattle.tcl_core.specs.Trees.Move.{Come}
use Rattle.tcl_core.specs.Trees.What.{Charged, Refused, Dropped, Out, In, Done, Back, Unfound}
use Rattle.tcl_core.specs.Programs.{Table, Wait}
use Rattle.tcl_core.specs.Runs.{Runs, Visits, World, gone, is_told}
use Rattle.tcl_core.specs.Meaning.{by_test}
use Rattle.tcl_core.specs.Views.{moves_of, steps_of, view}
use Rattle.tcl_core.specs.Execution.{event}
use Rattle.tcl_core.specs.Lives.{Outcome, React, begun, ended, outcome_of, outs_of}
use Rattle.tcl_core.specs.Lives.Outcome.{Ended, Exited, Finished, Waiting}
use Rattle.tcl_core.specs.Laws.{IsUnended, IsUpright, KeepsTop, ReadsMove, after}
use Rattle.tcl_reactions.specs.Moving.{Budgeted, Moved, beginning, budgeted, result_by}
use Rattle.tcl_reactions.specs.Moving as moving
use Rattle.tcl_reactions.specs.Playing.{Fate, Player, Lived, IsOver, beginner, last_end, outcome}
use Rattle.tcl_reactions.specs.Playing.{plays, tree_left}

-- What comes of playing these moves to a tree, with so many steps, is what that tree does by itself
-- with them and that budget: the outcome, what is told to the outside, and the tree left.
abbrev pub PlayedIsReact : Type 0 → Type 0 → Type 0
PlayedIsReact O I = (prog : Table O I) (S V : Tree O) (ms : List (Move O)) (n : ℕ) (z : Player O) →
    Lived prog S (beginner ms n) V z → IsOver z →
    React prog S ms n (outcome z) z.outs (tree_left z V)

-- What comes of a life to which an outside hands in entry by entry, with a budget, is what that
-- tree does by itself with the moves that the outside makes. (`proofs/Movements.antt` has it for an
-- outside whose steps are any relation; here they are those that a test lets through.)
abbrev pub MovesReact : Type 0 → Type 0 → Type 0 → Type 0
MovesReact O I S = (goes : Tree O → S → Wait → Event O → S → Bool) (prog : Table O I) (T V : Tree O)
    (o : S) (limit : ℕ) (c : Budgeted S) (x : Outcome) →
    moving.Lived (budgeted (by_test goes)) prog T (beginning o limit) V c x →
    Moved (by_test goes) prog T o limit (result_by c.halt x) V c.outside

-- What is played leaves each depth as it was, or 0 where who stood there was dropped, where above
-- each interpreter that stands all stand and are in use as deeply: all entries came to their end by
-- then, also where the playing was cut short. So where nothing was in progress nothing is.
abbrev pub DepthsStay : Type 0 → Type 0 → Type 0
DepthsStay O I = (prog : Table O I) (S V : Tree O) (o z : Player O) →
    Lived prog S o V z → IsUpright S → (q : Place) →
    (depth_of (V q) ≡ depth_of (S q)) ⊎ (depth_of (V q) ≡ 0)

-- each end from outside among these moves is one by what is above
abbrev pub AreFromAbove : {O : Type 0} → List (Move O) → Type 0
AreFromAbove [] = Unit {0}
AreFromAbove (Come (Replied (Cut Over)) ∷ ms) = Prim.⊥
AreFromAbove (m ∷ ms) = AreFromAbove ms

-- A tree, moves and a budget come to one outcome, whichever of the six it is: all that the tree
-- does by itself with these moves and this budget is the same, what it tells and what it leaves.
-- (Why a call is ended from outside is told to nobody. Of moves as they are recorded and played
-- each such end is one by what is above; so the law is said of these.)
abbrev pub OneOutcome : Type 0 → Type 0 → Type 0
OneOutcome O I = (prog : Table O I) (S : Tree O) (ms : List (Move O)) (n : ℕ) (x y : Outcome)
    (outs told : List (Event O)) (V W : Tree O) → AreFromAbove ms → React prog S ms n x outs V →
    React prog S ms n y told W → (y ≡ x) × (told ≡ outs) × (W ≡ V)

-- ## Up to where control comes in

-- The outcome of what happened until now, where control is outside: a call is open where an entry
-- is in progress, and else it is that of the last entry.
abbrev pub waits_if : Bool → Outcome → Outcome
waits_if true x = Waiting
waits_if false x = x

abbrev pub outcome_so_far : {O : Type 0} → List (Event O) → Outcome
outcome_so_far τ = waits_if (nat_lt (ended τ) (begun τ)) (outcome_of τ Finished)

abbrev pub IsAnswer : {O : Type 0} → What O → Type 0
IsAnswer (Back h a) = Unit {0}
IsAnswer x = Prim.⊥

-- Wherever control comes into the subtree at c in a whole evaluation, by an entry or by the answer
-- to its open call, and nothing there was ended from outside until then: there is what the subtree
-- does by itself with the moves until then, under each budget that isn't less than the steps made
-- there until then. It is what happened there until then: it waits at the open call, or no call is
-- open; it tells what was told, and leaves the subtree as it stood. Where an answer comes, a call
-- is open. Where that answer ends the call from outside, there is also what the subtree does by
-- itself with this end and whatever comes behind it: it is ended so, and tells the same.
pub record ReactsBefore (O I : Type 0) : Type 0 where
  pub reacts : (prog : Table O I) (c : Place) (w v : World O) (t : Path) (i : Entry) (r : Reply)
      (m : ℕ) (early late : List (Event O)) (next : Event O) →
      Visits prog (Runs prog) w None t i v (Some r) → v.moves ≡ [] → v.tape ≡ [] →
      view c w.tape ≡ early ++ next ∷ late → ReadsMove next → IsUnended early →
      steps_of early ≤ m →
      React prog (at w.tree c) (moves_of early) m (outcome_so_far early) (outs_of early)
      (after early (at w.tree c))
  pub waits : (prog : Table O I) (c : Place) (w v : World O) (t : Path) (i : Entry) (r : Reply)
      (early late : List (Event O)) (next : Event O) →
      Visits prog (Runs prog) w None t i v (Some r) → v.moves ≡ [] → v.tape ≡ [] →
      view c w.tape ≡ early ++ next ∷ late → ReadsMove next → IsAnswer next.what →
      IsUnended early → outcome_so_far early ≡ Waiting
  pub ends : (prog : Table O I) (c : Place) (w v : World O) (t : Path) (i : Entry) (r : Reply)
      (m : ℕ) (early late : List (Event O)) (p : Place) (h : Height) (x : Cause)
      (more : List (Move O)) →
      Visits prog (Runs prog) w None t i v (Some r) → v.moves ≡ [] → v.tape ≡ [] →
      view c w.tape ≡ early ++ event p (Back h (Replied (Cut x))) ∷ late → rise_to h p ≡ None →
      IsUnended early → steps_of early ≤ m → (V : Tree O) ×
      React prog (at w.tree c) (moves_of early ++ Come (Replied (Cut x)) ∷ more) m Ended
      (outs_of early) V

-- the last entry ended by this exit, or the playing is over
abbrev pub HasExited : {O : Type 0} → Player O → ℤ → Type 0
HasExited {O} o n = ((f : Fate O) × (o.fate ≡ Some f)) ⊎ (last_end o ≡ Exited n)

-- The player is never at a loss, whatever it was told before, where the moves are entries and
-- answers.
pub record NeverStuck (O : Type 0) : Type 0 where
  -- a step is made, or it is refused
  pub steps : (T : Tree O) (p : Place) (o : Player O) →
      ((z : Player O) × plays T o None (event p Charged) z) ⊎
      ((z : Player O) × plays T o None (event p (Refused Count None)) z)
  -- an interpreter is dropped; a call goes out, comes in at another of the tree, is done, and is
  -- answered there
  pub drops : (T : Tree O) (p : Place) (o : Player O) → (z : Player O) ×
      plays T o None (event p Dropped) z
  pub goes_out : (T : Tree O) (p : Place) (h : Height) (down : Path) (i : Entry) (o : Player O) →
      (z : Player O) × plays T o None (event p (Out h down i)) z
  pub comes_in : (T : Tree O) (p a : Place) (h : Height) (i : Entry) (o : Player O) →
      rise_to h p ≡ Some a → (z : Player O) × plays T o None (event p (In h i)) z
  pub is_done : (T : Tree O) (p : Place) (h : Height) (r : Reply) (o : Player O) → (z : Player O) ×
      plays T o None (event p (Done h r)) z
  pub comes_back : (T : Tree O) (p a : Place) (h : Height) (y : Answer) (o : Player O) →
      rise_to h p ≡ Some a → (z : Player O) × plays T o None (event p (Back h y)) z
  -- to a call that left the tree an entry comes next, whether it finds somebody or nobody; or an
  -- answer of its own
  pub next : (T : Tree O) (p : Place) (h : Height) (i : Entry) (d : ℕ) (o : Player O) →
      rise_to h p ≡ None →
      KeepsTop o.left →
      ((t : Path) × (e : Entry) × ((z : Player O) × plays T o None (event t (In None e)) z) ×
      ((c : Completion) → (z : Player O) × plays T o None (event [] (Unfound t e c)) z)) ⊎
      ((a : Answer) × (z : Player O) × plays T o (Some (h, i, d)) (event p (Back h a)) z ×
      (is_told (gone d T p) h i a ≡ true))
  -- and after an entry of it that ended by an exit the call ends by that exit
  pub has_exited : (T : Tree O) (t : Path) (n : ℤ) (o z : Player O) →
      plays T o None (event t (Done None (Exit n))) z → HasExited z n
  pub exits : (T : Tree O) (p : Place) (h : Height) (i : Entry) (d : ℕ) (n : ℤ) (o : Player O) →
      rise_to h p ≡ None → HasExited o n → (z : Player O) ×
      plays T o (Some (h, i, d)) (event p (Back h (Replied (Exit n)))) z
