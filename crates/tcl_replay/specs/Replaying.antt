-- What contracts see of a replay.
use Rattle.std.specs.Prelude.{◌≡◌, ◌⊎◌, ℕ, ◌+◌, Bool, true, false, nat_le, Option, Some, None, List}
use Rattle.std.specs.Prelude.{[], Result, Err}
use Rattle.tcl_core.specs.Endings.{Reply}
use Rattle.tcl_core.specs.Entries.{Entry}
use Rattle.tcl_core.specs.Lives.{Outcome, React, count_at}
use Rattle.tcl_core.specs.Lives.Outcome.{Waiting}
use Rattle.tcl_core.specs.Paths.{Path}
use Rattle.tcl_core.specs.Execution.{event}
use Rattle.tcl_core.specs.Trees.{Event, Move, Node, Tree}
use Rattle.tcl_core.specs.Trees.What.{Done, In, Unfound}
use Rattle.tcl_eval.specs.Running.{most_steps}
use Rattle.tcl_run.specs.Language.{language}
use Rattle.tcl_player.specs.Players.{played, player_of}
use Rattle.tcl_player.specs.declared.player.Player as declared
use Rattle.tcl_reactions.specs.Playing.{Player, plays}
use Rattle.tcl_run.specs.Runs.{Comes}
use Rattle.tcl_run.specs.declared.interruption.Interruption.{Interruption}
use Rattle.tcl_run.specs.declared.interruption.Interruption.TheVariants as interruption
use Rattle.tcl_text.specs.declared.integer.Integers.{Integers}
use Rattle.tcl_tree.specs.Own.{Own}
use Rattle.tcl_replay.specs.Saved.{SavedView}
use Rattle.tcl_replay.specs.declared.replaying.Unplayed.{Unplayed}
use Rattle.tcl_replay.specs.declared.replaying.Unplayed.TheVariants as unplayed

-- ## Before a replay

-- the first of these is why there is no replay: it waits, or its steps can't be counted so far
abbrev pub first_of : Bool → Bool → Option Unplayed
first_of true counts = Some unplayed.Waits
first_of false false = Some unplayed.CountTooLarge
first_of false true = None

abbrev pub unfit : SavedView → ℕ → Option Unplayed
unfit s limit = first_of s.waits (nat_le (count_at (s.tree []) + limit) most_steps)

-- ## What comes of it

-- This is all that the tree does by itself with these moves and this budget: it comes to no other
-- outcome, tells nothing else and leaves no other tree.
abbrev pub ReactsSo : Integers → Tree Own → List (Move Own) → ℕ → Outcome → List (Event Own) →
    Tree Own → Type 0
ReactsSo style S ms n x told W = (y : Outcome) (others : List (Event Own)) (V : Tree Own) →
    React (language style) S ms n y others V → (y ≡ x) × (others ≡ told) × (V ≡ W)

-- it is left at an open call
abbrev pub is_waiting : Outcome → Bool
is_waiting Waiting = true
is_waiting x = false

-- An entry that was handed in to the tree U ran where somebody stands, and the player was told how
-- it ended.
pub record Serves (style : Integers) (U : Tree Own) (w : Player Own) (target : Path) (i : Entry)
    (V : Tree Own) (z : Player Own) : Type 0 where
  pub node : Node Own
  pub stands : U target ≡ Some node
  pub between : Player Own
  pub reply : Reply
  pub runs : Comes plays (language style) U w target ((language style).entry i) V between reply
  pub told : plays V between None (event target (Done None reply)) z

-- It found nobody, and the player was told that, from before it was handed in.
pub record Misses (style : Integers) (U : Tree Own) (w : declared.Player) (target : Path)
    (i : Entry) (V : Tree Own) (z : declared.Player) : Type 0 where
  pub nobody : U target ≡ None
  pub same : V ≡ U
  pub told : (before : declared.Player) → played U before None (event target (In None i)) w →
      played U before None (event [] (Unfound target i ((language style).lost target))) z

-- one of both
abbrev pub PlaysEntry : Integers → Tree Own → declared.Player → Path → Entry → Tree Own →
    declared.Player → Type 0
PlaysEntry style U w target i V z = Serves style U (player_of w) target i V (player_of z) ⊎
    Misses style U w target i V z

-- the evaluation ended for want of memory
abbrev pub wants_memory : Result (List ℕ) Interruption → Bool
wants_memory (Err interruption.Memory) = true
wants_memory r = false
