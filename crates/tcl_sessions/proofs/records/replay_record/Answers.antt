use Rattle.std.proofs.Common.{List, ap, subst, ◌∙◌}
use Rattle.tcl_core.specs.Lives.{React}
use Rattle.tcl_core.specs.Trees.{Event, Move}
use Rattle.tcl_core.specs.Views.{moves_of}
use Rattle.tcl_run.specs.Language.{language}
use Rattle.tcl_player.specs.Moves.{moves_in}
use Rattle.tcl_player.specs.Players.{result_of}
use Rattle.tcl_recorder.specs.Crossings.{events_of}
use Rattle.tcl_tree.specs.Own.{Own}
use Rattle.tcl_tree.specs.TreeOf.{tree_of}
use Rattle.tcl_sessions.proofs.records.replay_record.Goals as goal

pub returns-clause-reacts : goal.returns-clause-reacts
returns-clause-reacts c =
    subst (λ (ms : List (Move Own)). React (language c.args.saved.now.tree.integers) (tree_of c.args.saved.now.tree) ms c.args.limit (result_of c.in_ok-replay.field-0.outcome) (events_of c.in_ok-replay.field-0.outwards.items) (tree_of c.in_ok-replay.field-0.saved.tree))
    (ap moves_in c.as_slice.ensures.value ∙ c.in_ok-moves.ensures ∙ ap (λ (es : List (Event Own)). moves_of es) c.crossings.ensures) c.in_ok-replay.ensures.reacts
