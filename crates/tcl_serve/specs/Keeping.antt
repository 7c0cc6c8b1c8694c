-- Records, and what they come to when they are replayed.
use Rattle.std.specs.Prelude.{◌≡◌, ◌⊎◌, ◌↔◌, ℕ, Bool, true, false, List, [], ◌∷◌, map, Some}
use Rattle.std.specs.Prelude.{Result, Ok, Err, IsTrue, if◌then◌else◌}
use Rattle.tcl_core.specs.Lives.{React}
use Rattle.tcl_core.specs.Paths.{Path, Text}
use Rattle.tcl_core.specs.Trees.{Event, What, at}
use Rattle.tcl_core.specs.Trees.What.{Done, Out}
use Rattle.tcl_core.specs.Views.{moves_of}
use Rattle.tcl_eval.specs.declared.running.Refused.{Refused}
use Rattle.tcl_eval.specs.declared.running.Refused.TheVariants as refused
use Rattle.tcl_run.specs.Language.{language}
use Rattle.tcl_player.specs.Players.{result_of}
use Rattle.tcl_player.specs.declared.player.Outcome.{Outcome}
use Rattle.tcl_serve.specs.declared.answers.Replayed.{Replayed}
use Rattle.tcl_serve.specs.declared.refusals.Refusal.{Refusal}
use Rattle.tcl_serve.specs.declared.refusals.Refusal.TheVariants as refusal
use Rattle.tcl_player.specs.Lines.{event_line, outcome_text}
use Rattle.tcl_recorder.specs.Crossings.{events_of}
use Rattle.tcl_recorder.specs.declared.crossing.Crossing.{Crossing}
use Rattle.tcl_replay.specs.Replaying.{unfit}
use Rattle.tcl_replay.specs.Saved.{SavedView, saved_of, unsavable}
use Rattle.tcl_replay.specs.declared.replaying.Unplayed.{Unplayed}
use Rattle.tcl_replay.specs.declared.replaying.Unplayed.TheVariants as unplayed
use Rattle.tcl_serve.specs.declared.keeping.Left.{Left}
use Rattle.tcl_serve.specs.declared.keeping.Told.{Told}
use Rattle.tcl_replay.specs.declared.saving.Saved.{Saved}
use Rattle.tcl_tree.specs.Own.{Own}
use Rattle.tcl_tree.specs.TreeOf.{marks_of, tree_of}
use Rattle.tcl_tree.specs.declared.tree.Tree.{Tree as Table}

-- a line for each crossing
abbrev pub lines_in : List (Event Own) → List Text
lines_in events = map event_line events

-- a crossing leads outwards: it is a call, or the end of an entry
abbrev pub leads : What Own → Bool
leads (Out h down i) = true
leads (Done h r) = true
leads x = false

abbrev pub leads_out : Event Own → Bool
leads_out ev = leads ev.what

-- those that do
abbrev pub outward : List (Event Own) → List (Event Own)
outward [] = []
outward (ev ∷ τ) = if leads_out ev then ev ∷ outward τ else outward τ

-- what was told, and the number of what was left
abbrev pub under : Told → ℕ → Replayed
under told n = record {
  outcome = told.outcome;
  same = told.same;
  saved = n;
  lines = told.lines;
}

abbrev pub of_unplayed : Unplayed → Refusal
of_unplayed unplayed.Memory = refusal.Memory
of_unplayed unplayed.CountTooLarge = refusal.TooManySteps
of_unplayed unplayed.Waits = refusal.Waits

-- why nothing is saved; want of memory breaks nothing then
abbrev pub of_unsaved : Refused → Refusal
of_unsaved refused.Memory = refusal.Memory
of_unsaved refused.Broken = refusal.Broken
of_unsaved refused.NoInterpreter = refusal.Nobody
of_unsaved refused.CountTooLarge = refusal.TooManySteps
of_unsaved refused.TooLong = refusal.TooLong

-- The saved interpreter reacts by itself to the moves of a record; what it told is said, and
-- whether that is what it tells in the record.
pub record Played (v : SavedView) (crossings : List (Event Own)) (limit : ℕ) (left : Left) : Type 0
  where
    pub outcome : Outcome
    pub outwards : List Crossing
    pub reacts : React (language v.integers) v.tree (moves_of crossings) limit (result_of outcome)
        (events_of outwards) (saved_of left.saved).tree
    pub style : (saved_of left.saved).integers ≡ v.integers
    pub came : left.told.outcome ≡ outcome_text outcome
    pub told : left.told.lines.items ≡ lines_in (events_of outwards)
    pub same : IsTrue left.told.same ↔ (left.told.lines.items ≡ lines_in (outward crossings))

abbrev pub Plays : SavedView → List (Event Own) → ℕ → Result Left Refusal → Type 0
Plays v crossings limit (Ok left) = Played v crossings limit left
Plays v crossings limit (Err e) = (e ≡ refusal.Memory) ⊎
    ((u : Unplayed) × (e ≡ of_unplayed u) × (unfit v limit ≡ Some u))

-- The interpreter at a path is saved by itself, as it stands; or why not.
abbrev pub SavesAt : Table → Path → Result Saved Refusal → Type 0
SavesAt t path (Ok s) = saved_of s ≡ record {
  tree = at (tree_of t) path;
  integers = (marks_of t).integers;
  waits = false;
}
SavesAt t path (Err e) = (e ≡ refusal.Memory) ⊎
    ((u : Refused) × (e ≡ of_unsaved u) × (unsavable t path ≡ Some u))
