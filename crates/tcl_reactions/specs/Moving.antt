-- An outside that hands in entry by entry, with a budget of steps: what it goes through, and what
-- the tree does by itself with the same moves.
use Rattle.std.specs.Prelude.{◌≡◌, ◌⊎◌, ℕ, suc, ◌≤◌, List, [], Option, Some, None}
use Rattle.tcl_core.specs.Paths.{Path, Place, rise_to}
use Rattle.tcl_core.specs.Endings.{Reply}
use Rattle.tcl_core.specs.Endings.Meter.{Count, Depth}
use Rattle.tcl_core.specs.Endings.Reply.{Cut}
use Rattle.tcl_core.specs.Entries.{Entry, Answer}
use Rattle.tcl_core.specs.Entries.Answer.{Replied}
use Rattle.tcl_core.specs.Trees.{Tree, Node, What, Event}
use Rattle.tcl_core.specs.Trees.What.{Charged, Refused, In, Done, Back, Unfound}
use Rattle.tcl_core.specs.Programs.{Wait, Table}
use Rattle.tcl_core.specs.Views.{moves_of, steps_of}
use Rattle.tcl_core.specs.Execution.{Chain, Crossings, Executes, Open, event}
use Rattle.tcl_core.specs.Lives.{Outcome, React, ending_of, outs_of}
use Rattle.tcl_core.specs.Lives.Outcome.{Finished, Ended, Spent}
use Rattle.tcl_reactions.specs.Playing.{IsEnd}

-- The life from the tree T and the outside's state o, entry by entry: each is handed in where the
-- one before came to its end, and not by an exit. It ended as the last one did.
pub data Lived {O I S : Type 0} (goes : Tree O → S → Wait → Event O → S → Type 0)
    (prog : Table O I) (T : Tree O) (o : S) : Tree O → S → Outcome → Type 0 where
  begun : Lived goes prog T o T o Finished
  entered : {U V : Tree O} {u w v z : S} {node : Node O} (t : Path) (i : Entry) (r : Reply) →
      Lived goes prog T o U u Finished → U t ≡ Some node → goes U u None (event t (In None i)) w →
      Executes (Crossings goes) prog U w t (prog.entry i) V v r →
      goes V v None (event t (Done None r)) z → Lived goes prog T o V z (ending_of r)
  -- it finds nobody
  unfound : {U : Tree O} {u z : S} (t : Path) (i : Entry) → Lived goes prog T o U u Finished →
      U t ≡ None → goes U u None (event [] (Unfound t i (prog.lost t))) z →
      Lived goes prog T o U z Finished

-- why such a life is over before the last entry came to its end by itself
pub data Halt : Type 0 where
  -- an open call was answered by an end from outside
  Cuts : Halt
  -- a step was to be made, and none was left of the budget
  Spends : Halt
  -- the outside refused a step that was left
  Refuses : Halt

-- An outside with a budget: its state, the steps that are left, and why the life is over, if it is.
pub record Budgeted (S : Type 0) : Type 0 where
  pub outside : S
  pub left : ℕ
  pub halt : Option Halt

abbrev pub beginning : {S : Type 0} → S → ℕ → Budgeted S
beginning o n = record { outside = o; left = n; halt = None }

-- whether an answer from past the top is an end from outside
abbrev pub halt_by : Option Place → Answer → Option Halt
halt_by None (Replied (Cut c)) = Some Cuts
halt_by o a = None

-- The budget is used up, and the outside isn't told;
abbrev pub IsSpent : {S : Type 0} → Budgeted S → Budgeted S → Type 0
IsSpent o z = (o.left ≡ 0) × (z ≡ record { outside = o.outside; left = 0; halt = Some Spends })

-- Once the life is over nothing changes, and the outside isn't told: no step is made, nothing comes
-- in, and each call that passed the top is ended at once.
abbrev pub past : Option Place → Type 0 → Type 0
past None t = t
past (Some a) t = Unit {0}

abbrev pub unwinds : {O : Type 0} → Place → What O → Type 0
unwinds p Charged = Prim.⊥
unwinds p (Refused Depth h) = Prim.⊥
unwinds p (In h i) = past (rise_to h p) Prim.⊥
unwinds p (Back h a) = past (rise_to h p) (IsEnd a)
unwinds p (Unfound t i c) = Prim.⊥
unwinds p x = Unit {0}

module _ {O S : Type 0} (goes : Tree O → S → Wait → Event O → S → Type 0) where
  -- or the outside goes from one state to the next, with so many steps left, and the life goes on
  -- or is over by it.
  pub record Goes (T : Tree O) (o : Budgeted S) (s : Wait) (ev : Event O) (left : ℕ)
      (halt : Option Halt) (z : Budgeted S) : Type 0 where
    pub told : goes T o.outside s ev z.outside
    pub left_so : z.left ≡ left
    pub halt_so : z.halt ≡ halt

  -- how it goes as long as the life goes on
  abbrev pub meets : Tree O → Budgeted S → Wait → Place → What O → Budgeted S → Type 0
  meets T o s p Charged z = (n : ℕ) × (o.left ≡ suc n) × Goes T o s (event p Charged) n None z
  meets T o s p (Refused Count None) z = IsSpent o z ⊎
      Goes T o s (event p (Refused Count None)) o.left (Some Refuses) z
  meets T o s p (Refused m h) z = Prim.⊥
  meets T o s p (Back h a) z = Goes T o s (event p (Back h a)) o.left (halt_by (rise_to h p) a) z
  meets T o s p x z = Goes T o s (event p x) o.left None z

  abbrev pub meets_by : Option Halt → Tree O → Budgeted S → Wait → Place → What O → Budgeted S →
      Type 0
  meets_by None T o s p x z = meets T o s p x z
  meets_by (Some f) T o s p x z = unwinds p x × (z ≡ o)

  abbrev pub budgeted : Tree O → Budgeted S → Wait → Event O → Budgeted S → Type 0
  budgeted T o s ev z = meets_by o.halt T o s ev.place ev.what z

-- What came of such a life: how the last entry ended, or why it was over before.
pub data Result : Type 0 where
  By : Outcome → Result
  Halted : Halt → Result

abbrev pub result_by : Option Halt → Outcome → Result
result_by None x = By x
result_by (Some f) x = Halted f

-- in the words of a tree by itself: a step that the outside refuses is one for which there is no
-- budget
abbrev pub as_outcome : Result → Outcome
as_outcome (By x) = x
as_outcome (Halted Cuts) = Ended
as_outcome (Halted Spends) = Spent
as_outcome (Halted Refuses) = Spent

-- the budget with which a tree by itself does the same: where the outside refused a step, those
-- that were made until then
abbrev pub budget_of : Result → ℕ → ℕ → ℕ
budget_of (Halted Refuses) made limit = made
budget_of e made limit = limit

-- all calls were answered, and the tree is the one to which all that happened led
abbrev pub IsWhole : {O : Type 0} → Result → Open → Tree O → Tree O → Type 0
IsWhole (By x) calls during V = (calls ≡ []) × (during ≡ V)
IsWhole (Halted f) calls during V = Unit {0}

-- From the tree S and the outside's state o a life came to this, with at most so many counted
-- steps. All of the tape happened until it came to that: it took the outside from o to z, and the
-- tree to another one, and these calls were open then. With the moves that the outside made in it,
-- the tree by itself does the same: it comes to that outcome, tells what is told in the tape, and
-- leaves V.
pub record Moved {O I S : Type 0} (goes : Tree O → S → Wait → Event O → S → Type 0)
    (prog : Table O I) (S0 : Tree O) (o : S) (limit : ℕ) (e : Result) (V : Tree O) (z : S) :
    Type 0 where
  pub tape : List (Event O)
  pub calls : Open
  pub during : Tree O
  pub chain : Chain (Crossings goes) [] S0 o tape calls during z
  pub within : steps_of tape ≤ limit
  pub whole : IsWhole e calls during V
  pub reacts : React prog S0 (moves_of tape) (budget_of e (steps_of tape) limit) (as_outcome e)
      (outs_of tape) V
