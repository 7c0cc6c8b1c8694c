use Rattle.std.proofs.Common.{◌∷◌, [], ◌+◌, take, ap, ◌∙◌, Vec, Global}
use Rattle.tcl_core.specs.Views as views
use Rattle.tcl_recorder.specs.Crossings.{event_of, events_of}
use Rattle.tcl_player.specs.declared.moves.Move.{Move}
use Rattle.tcl_player.proofs.Lists.{next_crossing, none_more, one_more}
use Rattle.tcl_player.proofs.moves.moves_of.Goals.{in-Some+in_ok-push, in_default}
use Rattle.tcl_player.proofs.moves.moves_of.Goals as goal

pub loop-crossing-preserved : goal.loop-crossing-preserved
loop-crossing-preserved c =
    let i = c.loop-crossing.crossing-index in
    let xs = c.args.crossings.now in
    let before = views.moves_of (events_of (take i xs)) in
    let later = views.moves_of (events_of (take (i + 1) xs)) in
    let one = views.moves_of (event_of c.crossing-item.result ∷ []) in
    let more = next_crossing xs i c.crossing-item.result c.loop-crossing-test.true c.crossing-item.is in
    elim c.match-branch-2.branch [
      | in-Some+in_ok-push w ↦ one_more c.match-branch-2.moves.items c.loop-crossing.moves.items c.in_ok-made.field-0 before later one c.loop-crossing.invariant more c.in_ok-made.ensures _ w.in-Some.is (ap (λ (v : Vec Move Global). v.items) w.moves-is ∙ w.in_ok-push.ensures.items)
      | in_default w ↦ none_more c.match-branch-2.moves.items c.loop-crossing.moves.items c.in_ok-made.field-0 before later one c.loop-crossing.invariant more c.in_ok-made.ensures w.in_default.is (search)
    ]
