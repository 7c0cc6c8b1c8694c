-- What contracts see of an open run of the moves of its outside alone.
use Rattle.std.specs.Prelude.{◌≡◌, ◌⊎◌, ℕ, suc, ◌≤◌, Bool, true, false, ℤ, List, [], Option}
use Rattle.std.specs.Prelude.{Some, None, Result, Err}
use Rattle.std.specs.Option.{option_map}
use Rattle.tcl_core.specs.Endings.{Reply}
use Rattle.tcl_core.specs.Endings.Meter.{Count}
use Rattle.tcl_core.specs.Entries.{Entry}
use Rattle.tcl_core.specs.Lives as core
use Rattle.tcl_core.specs.Lives.{limit_at}
use Rattle.tcl_core.specs.Paths.{Path, Place}
use Rattle.tcl_core.specs.Programs.{limit_or}
use Rattle.tcl_core.specs.Execution.{Chain, Crossings, Open, event}
use Rattle.tcl_core.specs.Trees.{Event, Node, Tree}
use Rattle.tcl_core.specs.Trees.What.{Done, In, Refused, Unfound}
use Rattle.tcl_core.specs.Views.{steps_of}
use Rattle.tcl_language.specs.Interpreters.{nobody_at}
use Rattle.tcl_language.specs.Table.{serve}
use Rattle.tcl_run.specs.Language.{language}
use Rattle.tcl_reactions.specs.Moving as moving
use Rattle.tcl_reactions.specs.Moving.{Lived, budgeted}
use Rattle.tcl_run.specs.Outsides.{Going}
use Rattle.tcl_partial_runs.specs.Beginnings.{Begun}
use Rattle.tcl_run.specs.Runs.{Comes, InUse, IsLoss, Ways, is_root, steps_at}
use Rattle.tcl_run.specs.declared.interruption.Interruption.{Interruption}
use Rattle.tcl_run.specs.declared.interruption.Interruption.TheVariants as interruption
use Rattle.tcl_run.specs.declared.outside.Turn.{Turn}
use Rattle.tcl_text.specs.declared.integer.Integers.{Integers}
use Rattle.tcl_tree.specs.Own.{Own}
use Rattle.tcl_tree.specs.TreeOf.{key_of, tree_of}
use Rattle.tcl_tree.specs.declared.tree.Tree.{Tree as Table}
use Rattle.tcl_eval.specs.Running.{root_count}
use Rattle.tcl_embed.specs.declared.moves.Budgeted.{Budgeted}
use Rattle.tcl_embed.specs.declared.moves.Halt.{Halt}
use Rattle.tcl_embed.specs.declared.moves.Halt.TheVariants as halt
use Rattle.tcl_embed.specs.declared.moves.Outcome.{Outcome}
use Rattle.tcl_embed.specs.declared.moves.Outcome.TheVariants as outcome

-- ## The outside with its budget

abbrev pub halt_of : Halt → moving.Halt
halt_of halt.Cuts = moving.Cuts
halt_of halt.Spends = moving.Spends
halt_of halt.Refuses = moving.Refuses

abbrev pub budgeted_of : {S : Type 0} → Budgeted S → moving.Budgeted S
budgeted_of o = record {
  outside = o.outside;
  left = o.left;
  halt = option_map halt_of o.halt;
}

abbrev pub by_budget : {S : Type 0} → Going S → Going (Budgeted S)
by_budget goes T o s ev z = budgeted goes T (budgeted_of o) s ev (budgeted_of z)

-- a step is granted where the life goes on, one is left, and the outside grants it
abbrev pub grants : Option Halt → ℕ → Bool → Bool
grants None (suc n) b = b
grants h n b = false

-- an entry comes next where the life goes on, and the outside hands one in
abbrev pub hands : Option Halt → Bool → Bool
hands None b = b
hands (Some f) b = false

-- why a life is over by what came next to an open call
abbrev pub halt_at : Result Turn Interruption → Option Halt
halt_at (Err (interruption.Cut c)) = Some halt.Cuts
halt_at t = None

-- ## A life

-- the last entry ended by this exit, or otherwise
abbrev pub last_end : Option ℤ → core.Outcome
last_end None = core.Finished
last_end (Some n) = core.Exited n

-- What came of one entry into an interpreter that stands, of which the outside was told how it
-- ended;
pub record Serves {S : Type 0} (goes : Going S) (style : Integers) (T : Tree Own) (o : S)
    (target : Path) (i : Entry) (V : Tree Own) (z : S) (x : core.Outcome) : Type 0 where
  pub node : Node Own
  pub stands : T target ≡ Some node
  pub between : S
  pub reply : Reply
  pub runs : Comes goes (language style) T o target (serve style i) V between reply
  pub told : goes V between None (event target (Done None reply)) z
  pub ends : core.ending_of reply ≡ x

-- or of one that found nobody, of which the outside was told that, and for which nothing was done.
pub record FindsNobody {S : Type 0} (goes : Going S) (T : Tree Own) (before : S) (target : Path)
    (i : Entry) (V : Tree Own) (z : S) (x : core.Outcome) : Type 0 where
  pub nobody : T target ≡ None
  pub told : goes T before None (event [] (Unfound target i (nobody_at target))) z
  pub same : V ≡ T
  pub ends : core.Finished ≡ x

-- What came of the entry that the outside, in whatever state before, handed in.
abbrev pub ComesOf : {S : Type 0} → Going S → Integers → Tree Own → S → Path → Entry → Tree Own →
    S → core.Outcome → Type 0
ComesOf {S} goes style T o target i V z x = (before : S) →
    goes T before None (event target (In None i)) o →
    Serves goes style T o target i V z x ⊎ FindsNobody goes T before target i V z x

-- what came of all of them
abbrev pub result_of : Outcome → moving.Result
result_of outcome.Finished = moving.By core.Finished
result_of (outcome.Exited n) = moving.By (core.Exited n)
result_of outcome.Ended = moving.Halted moving.Cuts
result_of outcome.Spent = moving.Halted moving.Spends
result_of outcome.Denied = moving.Halted moving.Refuses

-- ## Where memory is wanted

-- One entry was given up on its way; since then the outside is what may have become of it;
pub record GivesUpIn {S : Type 0} (ways : Ways S) (style : Integers) (T : Tree Own) (o : S)
    (target : Path) (i : Entry) (z : S) : Type 0 where
  pub node : Node Own
  pub stands : T target ≡ Some node
  pub last : S
  pub begun : Begun (Crossings ways.goes) (language style) T o target (serve style i) last
  pub lost : IsLoss ways.loses last z

-- or it found nobody, and the outside is what may have become of it since before that was handed
-- in.
abbrev pub GivesUpOn : {S : Type 0} → Ways S → Integers → Tree Own → S → Path → Entry → S → Type 0
GivesUpOn {S} ways style T o target i z = (before : S) → ways.loses before o →
    GivesUpIn ways style T o target i z ⊎ ((T target ≡ None) × IsLoss ways.loses before z)

-- So far a life came that was given up: between two entries, or in one that was handed in to
-- somebody.
pub data Stopped {S : Type 0} (goes : Going S) (style : Integers) (T : Tree Own) (o : S) : S → Type
    0 where
  between : {U : Tree Own} {z : S} → Lived goes (language style) T o U z core.Finished →
      Stopped goes style T o z
  within : {U : Tree Own} {u w z : S} {node : Node Own} (t : Path) (i : Entry) →
      Lived goes (language style) T o U u core.Finished → U t ≡ Some node →
      goes U u None (event t (In None i)) w →
      Begun (Crossings goes) (language style) U w t (serve style i) z →
      Stopped goes style T o z

-- and since then the outside is what may have become of it
pub record GivesUp {S : Type 0} (ways : Ways S) (style : Integers) (T : Tree Own) (o z : S) : Type 0
  where
    pub last : S
    pub stopped : Stopped ways.goes style T o last
    pub lost : IsLoss ways.loses last z

-- The same of an outside that has a budget.
pub record IsGivenUp {S : Type 0} (ways : Ways S) (style : Integers) (T : Tree Own) (o : S)
    (limit : ℕ) (z : S) : Type 0 where
  pub last : Budgeted S
  pub stopped : Stopped (by_budget ways.goes) style T
      (record { outside = o; left = limit; halt = None }) last
  pub lost : IsLoss ways.loses last.outside z

-- ## Steps that are refused

-- The outside refused a step. That is the last that it was told of; all that happened until then
-- took it from o to there, with at most so many counted steps. (So where it is the budget that is
-- used up, of which the outside isn't told, it isn't said that the outside refused.)
pub record IsDenied {S : Type 0} (goes : Going S) (T : Tree Own) (o : S) (limit : ℕ) (z : S) : Type
    0 where
  pub tape : List (Event Own)
  pub calls : Open
  pub during : Tree Own
  pub last : S
  pub place : Place
  pub chain : Chain (Crossings goes) [] T o tape calls during last
  pub refused : goes during last None (event place (Refused Count None)) z
  pub within : steps_of tape ≤ limit

-- ## Counts

-- What becomes of counts, however it ends: none falls of those that were in use and stand still,
-- under their key, nor the top's; and where the top is a root, it has its own limit, which bounds
-- its count.
pub record KeepsCounts (old new : Table) : Type 0 where
  pub top : root_count old ≤ root_count new
  pub in_use : (q : Path) (k : ℕ) → InUse (tree_of old) q → key_of old q ≡ Some k →
      key_of new q ≡ Some k → steps_at (tree_of old) q ≤ steps_at (tree_of new) q
  pub limit : is_root (tree_of old []) ≡ true →
      limit_at (tree_of new []) ≡ limit_at (tree_of old [])
  pub within : is_root (tree_of old []) ≡ true → (b : ℕ) →
      limit_or (limit_at (tree_of old [])) ≤ b → root_count old ≤ b → root_count new ≤ b
