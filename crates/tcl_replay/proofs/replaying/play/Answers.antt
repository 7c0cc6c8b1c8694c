use Rattle.tcl_player.specs.Players.{player_of}
use Rattle.tcl_tree.specs.TreeOf.{tree_of}
use Rattle.tcl_replay.proofs.Depths.{depths}
use Rattle.tcl_replay.proofs.Serving.{reacts, reacts_so}
use Rattle.tcl_replay.proofs.replaying.play.Goals as goal

pub returns-clause-reacts : goal.returns-clause-reacts
returns-clause-reacts c = reacts c.args.tree.now.integers c.in_ok-played.played.integers (tree_of c.args.tree.now) (tree_of c.in_ok-played.played) (tree_of c.play_entries.new.tree) (tree_of c.in_ok-saved.saved.tree)
    (player_of c.new-player.result) (player_of c.play_entries.new.player) _ _ _ _ c.in_ok-played.ensures.style c.in_ok-played.ensures.tree c.new-player.ensures c.in_ok-play_entries.ensures.lived c.in_ok-play_entries.ensures.over
    c.outcome-outcome.ensures c.into_parts-outwards.ensures.outs (c.in_ok-saved.ensures.tree (player_of c.play_entries.new.player) c.into_parts-outwards.ensures.stands)

pub returns-clause-reacts_so : goal.returns-clause-reacts_so
returns-clause-reacts_so c = reacts_so c.args.tree.now.integers (tree_of c.args.tree.now) (tree_of c.in_ok-saved.saved.tree) c.args.moves.now c.args.limit _ _ (
    reacts c.args.tree.now.integers c.in_ok-played.played.integers (tree_of c.args.tree.now) (tree_of c.in_ok-played.played) (tree_of c.play_entries.new.tree) (tree_of c.in_ok-saved.saved.tree)
    (player_of c.new-player.result) (player_of c.play_entries.new.player) _ _ _ _ c.in_ok-played.ensures.style c.in_ok-played.ensures.tree c.new-player.ensures c.in_ok-play_entries.ensures.lived c.in_ok-play_entries.ensures.over
    c.outcome-outcome.ensures c.into_parts-outwards.ensures.outs (c.in_ok-saved.ensures.tree (player_of c.play_entries.new.player) c.into_parts-outwards.ensures.stands))

pub returns-clause-depths : goal.returns-clause-depths
returns-clause-depths c = λ w. depths c.in_ok-played.played.integers c.args.tree.now (tree_of c.in_ok-played.played) (tree_of c.play_entries.new.tree) (tree_of c.in_ok-saved.saved.tree) (player_of c.new-player.result) (player_of c.play_entries.new.player) _
    c.in_ok-played.ensures.tree c.in_ok-play_entries.ensures.lived c.outcome-outcome.ensures (c.in_ok-saved.ensures.tree (player_of c.play_entries.new.player) c.into_parts-outwards.ensures.stands) w
