-- What contracts see of a player.
use Rattle.std.specs.Prelude.{◌≡◌, ℕ, true, Option, Some, None}
use Rattle.std.specs.Option.{option_map}
use Rattle.tcl_core.specs.Entries.{Answer, Entry}
use Rattle.tcl_core.specs.Lives.{Outcome}
use Rattle.tcl_core.specs.Lives.Outcome.{Finished, Waiting, Ended, Exited, Spent, Misfit}
use Rattle.tcl_core.specs.Paths.{Path, Place, Height}
use Rattle.tcl_core.specs.Runs.{gone, is_told}
use Rattle.tcl_core.specs.Execution.{event}
use Rattle.tcl_core.specs.Trees.{Move, Tree}
use Rattle.tcl_core.specs.Trees.Move.{Enter, Come}
use Rattle.tcl_core.specs.Trees.What.{In}
use Rattle.tcl_reactions.specs.Playing as playing
use Rattle.tcl_reactions.specs.Playing.{Answers, HandsIn, IsEnd, IsOver, Player, last_end, plays}
use Rattle.tcl_run.specs.Outsides.{Going}
use Rattle.tcl_tree.specs.Own.{Own}
use Rattle.tcl_tree.specs.TreeOf.{tree_of}
use Rattle.tcl_tree.specs.declared.tree.Tree as table
use Rattle.tcl_recorder.specs.Crossings.{events_of}
use Rattle.tcl_player.specs.declared.player.Fate.{Fate}
use Rattle.tcl_player.specs.declared.player.Fate.TheVariants as fate
use Rattle.tcl_player.specs.declared.player.Outcome as declared_outcome
use Rattle.tcl_player.specs.declared.player.Player as declared
use Rattle.tcl_player.specs.Moves.{moves_in}
use Rattle.tcl_player.specs.declared.player.Outcome.TheVariants as outcome

-- why the playing is over
abbrev pub fate_of : Fate → playing.Fate Own
fate_of (fate.Waits tree) = playing.Waits (tree_of tree)
fate_of fate.Unfits = playing.Unfits
fate_of fate.EndsAbove = playing.EndsAbove
fate_of fate.Spends = playing.Spends

-- what a player has: the moves and the steps that are left, what was told, and why the playing is
-- over, if it is
abbrev pub player_of : declared.Player → Player Own
player_of o = record {
  left = moves_in
      o.left.now;
  steps = o.steps;
  outs = events_of o.outs.items;
  fate = option_map fate_of o.fate;
}

-- how a player goes: as one that plays
abbrev pub played : Going declared.Player
played T o s ev z = plays T (player_of o) s ev (player_of z)

abbrev pub result_of : declared_outcome.Outcome → Outcome
result_of outcome.Finished = Finished
result_of outcome.Waiting = Waiting
result_of outcome.Ended = Ended
result_of (outcome.Exited n) = Exited n
result_of outcome.Spent = Spent
result_of outcome.Misfit = Misfit

module _ (T : Tree Own) (p : Place) (d : ℕ) (o : Player Own) (h : Height) (i : Entry) where
  -- The open call from p, so high up and for this, that went out when d evaluations were in
  -- progress there, goes on by this move: an entry, or an answer that fits it and isn't an end from
  -- outside.
  abbrev pub GoesOn : Move Own → Player Own → Type 0
  GoesOn (Enter target entry) z = HandsIn o target entry z
  GoesOn (Come a) z = Answers T p o (Some (h, i, d)) a z × (is_told (gone d T p) h i a ≡ true)
  GoesOn m z = Prim.⊥

  -- Or the playing is over, and any end ends the call.
  abbrev pub IsOverBy : Player Own → Type 0
  IsOverBy z = (a : Answer) → IsEnd a → Answers T p o (Some (h, i, d)) a z

-- What comes between two entries: the next one, handed in where the last came to its end, whatever
-- the tree then is;
abbrev pub Begins : Player Own → Path → Entry → Player Own → Type 0
Begins o target entry z = (o.fate ≡ None) × (last_end o ≡ Finished) ×
    ((T : Tree Own) → plays T o None (event target (In None entry)) z)

-- or none, and the playing is over.
abbrev pub IsAtEnd : Player Own → Player Own → Type 0
IsAtEnd o z = IsOver o × (z ≡ o)

-- the tree that stood at the open call, where the playing waits at one
abbrev pub Stands : Option table.Tree → Option (playing.Fate Own) → Type 0
Stands (Some t) (Some (playing.Waits S)) = tree_of t ≡ S
Stands None None = Unit {0}
Stands None (Some playing.Unfits) = Unit {0}
Stands None (Some playing.EndsAbove) = Unit {0}
Stands None (Some playing.Spends) = Unit {0}
Stands t f = Prim.⊥
