-- An outside that plays a list of moves to a tree by itself: what it makes of what it is told, and
-- how the playing is over.
use Rattle.std.specs.Prelude.{◌≡◌, ℕ, suc, Bool, true, false, List, [], ◌∷◌, ◌++◌, Option, Some}
use Rattle.std.specs.Prelude.{None}
use Rattle.tcl_core.specs.Paths.{Path, Place, rise_to}
use Rattle.tcl_core.specs.Endings.{Completion, Reply}
use Rattle.tcl_core.specs.Endings.Meter.{Count}
use Rattle.tcl_core.specs.Endings.Reply.{Completed, Exit, Cut}
use Rattle.tcl_core.specs.Entries.{Entry, Answer}
use Rattle.tcl_core.specs.Entries.Answer.{Replied}
use Rattle.tcl_core.specs.Trees.{Tree, Node, What, Event, Move}
use Rattle.tcl_core.specs.Trees.What.{Charged, Refused, Out, In, Done, Back, Unfound}
use Rattle.tcl_core.specs.Trees.Move.{Enter, Come}
use Rattle.tcl_core.specs.Programs.{Wait, Table}
use Rattle.tcl_core.specs.Runs.{answers_call, gone_from, is_exit}
use Rattle.tcl_core.specs.Execution.{Crossings, Executes, event}
use Rattle.tcl_core.specs.Lives.{Outcome, outcome_of}
use Rattle.tcl_core.specs.Lives.Outcome.{Finished, Waiting, Ended, Exited, Spent, Misfit}

-- why the playing is over before an entry came to its end
pub data Fate (O : Type 0) : Type 0 where
  -- all moves were read, and a call was open: the tree as it stood at that call
  Waits : (stands : Tree O) → Fate O
  -- the next move didn't fit the open call
  Unfits : Fate O
  -- the open call was answered by an end from outside
  EndsAbove : Fate O
  -- a step was to be made, and none was left
  Spends : Fate O

-- Who plays: the moves and the steps that are left, what was told, and why the playing is over, if
-- it is.
pub record Player (O : Type 0) : Type 0 where
  pub left : List (Move O)
  pub steps : ℕ
  pub outs : List (Event O)
  pub fate : Option (Fate O)

-- Whether an answer may come to the open call: to an alias how its evaluation ended, to a request
-- one of its own answers, and to a caller that is gone what is no completion; but after an entry
-- that ended by an exit that exit alone. The outcome is that of the last entry.
abbrev pub may_come : Outcome → Option ℕ → Wait → Answer → Bool
may_come (Exited n) g s a = is_exit n a
may_come x g s a = answers_call g s a

-- whether a move may, an entry too
abbrev pub suits : {O : Type 0} → Outcome → Tree O → Place → Wait → Move O → Bool
suits x T p s (Come a) = may_come x (gone_from s T p) s a
suits (Exited n) T p s m = false
suits x T p s m = true

-- an end from outside
abbrev pub IsCut : Answer → Type 0
IsCut (Replied (Cut c)) = Unit {0}
IsCut a = Prim.⊥

abbrev pub IsNoCut : Answer → Type 0
IsNoCut (Replied (Cut c)) = Prim.⊥
IsNoCut a = Unit {0}

-- What ends an open call once the playing is over: an end from outside, or an exit. Which one
-- doesn't matter, since no program is told.
abbrev pub IsEnd : Answer → Type 0
IsEnd (Replied (Cut c)) = Unit {0}
IsEnd (Replied (Exit n)) = Unit {0}
IsEnd a = Prim.⊥

module _ {O : Type 0} where
  -- the same player: who reads on from these moves; is told this too; whose playing is over so
  abbrev pub reading : Player O → List (Move O) → Player O
  reading o ms = record { left = ms; steps = o.steps; outs = o.outs; fate = o.fate }

  abbrev pub telling : Player O → Event O → Player O
  telling o ev = record { left = o.left; steps = o.steps; outs = o.outs ++ ev ∷ []; fate = o.fate }

  abbrev pub stopping : Player O → Fate O → Player O
  stopping o f = record { left = o.left; steps = o.steps; outs = o.outs; fate = Some f }

  -- how the last entry ended that came to its end
  abbrev pub last_end : Player O → Outcome
  last_end o = outcome_of o.outs Finished

-- The open call s of who stood at p is answered by a, the tree being T.
pub data Answers {O : Type 0} (T : Tree O) (p : Place) (o : Player O) (s : Wait) (a : Answer)
    (z : Player O) : Type 0 where
  -- by the next move
  reads : (ms : List (Move O)) → o.fate ≡ None → o.left ≡ Come a ∷ ms →
      suits (last_end o) T p s (Come a) ≡ true → IsNoCut a → z ≡ reading o ms →
      Answers T p o s a z
  -- or the playing is over by it: the next move is an end from outside; there is none; or it
  -- doesn't fit
  ends : (b : Answer) (ms : List (Move O)) → o.fate ≡ None → o.left ≡ Come b ∷ ms →
      suits (last_end o) T p s (Come b) ≡ true → IsCut b → IsEnd a →
      z ≡ stopping (reading o ms) EndsAbove → Answers T p o s a z
  waits : o.fate ≡ None → o.left ≡ [] → IsEnd a → z ≡ stopping o (Waits T) → Answers T p o s a z
  unfits : (m : Move O) (ms : List (Move O)) → o.fate ≡ None → o.left ≡ m ∷ ms →
      suits (last_end o) T p s m ≡ false → IsEnd a → z ≡ stopping o Unfits → Answers T p o s a z
  -- or it was over already, and nothing more is read
  passes : (f : Fate O) → o.fate ≡ Some f → IsEnd a → z ≡ o → Answers T p o s a z

module _ {O : Type 0} where
  -- a step is made, where the playing goes on and one is left
  abbrev pub Pays : Player O → Player O → Type 0
  Pays o z = (o.fate ≡ None) × (o.steps ≡ suc z.steps) ×
      (z ≡ record { left = o.left; steps = z.steps; outs = o.outs; fate = o.fate })

  -- a step is refused, where none is left or the playing is over
  abbrev pub Refuses : Option (Fate O) → Player O → Player O → Type 0
  Refuses None o z = (o.steps ≡ 0) × (z ≡ stopping o Spends)
  Refuses (Some f) o z = z ≡ o

  -- an entry is handed in: the next move
  abbrev pub HandsIn : Player O → Path → Entry → Player O → Type 0
  HandsIn o t i z = (o.fate ≡ None) × (o.left ≡ Enter t i ∷ z.left) × (z ≡ reading o z.left)

  -- or finds nobody: it is handed in, and its end is told
  abbrev pub FindsNobody : Player O → Path → Entry → Completion → Player O → Type 0
  FindsNobody o t i c z = (u : Player O) × HandsIn o t i u ×
      (z ≡ telling u (event t (Done None (Completed c))))

  -- what is told is kept as long as the playing goes on
  abbrev pub Tells : Option (Fate O) → Player O → Event O → Player O → Type 0
  Tells None o ev z = z ≡ telling o ev
  Tells (Some f) o ev z = z ≡ o

  -- what passes the top of the tree matters, and what is between two interpreters of it doesn't
  abbrev pub past : Option Place → Player O → Player O → Type 0 → Type 0
  past None o z t = t
  past (Some a) o z t = z ≡ o

  abbrev pub meets : Tree O → Player O → Wait → Place → What O → Player O → Type 0
  meets T o s p Charged z = Pays o z
  meets T o s p (Refused Count None) z = Refuses o.fate o z
  meets T o s p (Refused m h) z = Prim.⊥
  meets T o s p (Out h down i) z = past (rise_to h p) o z
      (Tells o.fate o (event p (Out h down i)) z)
  meets T o s p (Done h r) z = past (rise_to h p) o z (Tells o.fate o (event p (Done h r)) z)
  meets T o s p (In h i) z = past (rise_to h p) o z (HandsIn o p i z)
  meets T o s p (Back h a) z = past (rise_to h p) o z (Answers T p o s a z)
  meets T o s p (Unfound t i c) z = FindsNobody o t i c z
  meets T o s p _ z = z ≡ o

  -- The player goes from o to z by a happening, which finds the tree T. It refuses no evaluation:
  -- only steps are counted.
  abbrev pub plays : Tree O → Player O → Wait → Event O → Player O → Type 0
  plays T o s ev z = meets T o s ev.place ev.what z

-- The playing from the tree T and the player o, entry by entry: each is handed in where the one
-- before came to its end, and not by an exit.
pub data Lived {O I : Type 0} (prog : Table O I) (T : Tree O) (o : Player O) : Tree O → Player O →
    Type 0 where
  begun : Lived prog T o T o
  entered : {U V : Tree O} {u w v z : Player O} {node : Node O} (t : Path) (i : Entry) (r : Reply) →
      Lived prog T o U u → u.fate ≡ None → last_end u ≡ Finished → U t ≡ Some node →
      plays U u None (event t (In None i)) w →
      Executes (Crossings plays) prog U w t (prog.entry i) V v r →
      plays V v None (event t (Done None r)) z → Lived prog T o V z
  -- it finds nobody
  unfound : {U : Tree O} {u z : Player O} (t : Path) (i : Entry) → Lived prog T o U u →
      u.fate ≡ None → last_end u ≡ Finished → U t ≡ None →
      plays U u None (event [] (Unfound t i (prog.lost t))) z → Lived prog T o U z

module _ {O : Type 0} where
  -- who is to play these moves, with so many steps
  abbrev pub beginner : List (Move O) → ℕ → Player O
  beginner ms n = record { left = ms; steps = n; outs = []; fate = None }

  -- The playing is over: it was cut short; or the last entry ended by an exit; or no entry comes
  -- next.
  abbrev pub NoEntryNext : List (Move O) → Type 0
  NoEntryNext [] = Unit {0}
  NoEntryNext (Come a ∷ ms) = Unit {0}
  NoEntryNext (m ∷ ms) = Prim.⊥

  abbrev pub EndsThere : Outcome → List (Move O) → Type 0
  EndsThere (Exited n) ms = Unit {0}
  EndsThere x ms = NoEntryNext ms

  abbrev pub OverBy : Option (Fate O) → Outcome → List (Move O) → Type 0
  OverBy (Some f) x ms = Unit {0}
  OverBy None x ms = EndsThere x ms

  abbrev pub IsOver : Player O → Type 0
  IsOver z = OverBy z.fate (last_end z) z.left

  -- what came of it
  abbrev pub outcome_left : List (Move O) → Outcome
  outcome_left [] = Finished
  outcome_left (m ∷ ms) = Misfit

  abbrev pub outcome_with : Outcome → List (Move O) → Outcome
  outcome_with (Exited n) ms = Exited n
  outcome_with x ms = outcome_left ms

  abbrev pub outcome_by : Option (Fate O) → Outcome → List (Move O) → Outcome
  outcome_by None x ms = outcome_with x ms
  outcome_by (Some (Waits S)) x ms = Waiting
  outcome_by (Some Unfits) x ms = Misfit
  outcome_by (Some EndsAbove) x ms = Ended
  outcome_by (Some Spends) x ms = Spent

  abbrev pub outcome : Player O → Outcome
  outcome z = outcome_by z.fate (last_end z) z.left

  -- the tree that it leaves, V being the one after all: where it waits, the one that stood at the
  -- open call
  abbrev pub left_by : Option (Fate O) → Tree O → Tree O
  left_by (Some (Waits S)) V = S
  left_by f V = V

  abbrev pub tree_left : Player O → Tree O → Tree O
  tree_left z V = left_by z.fate V
