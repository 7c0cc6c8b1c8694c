use Rattle.std.proofs.Common.{◌≡◌, take}
use Rattle.tcl_core.specs.Views as views
use Rattle.tcl_player.specs.Moves.{moves_in}
use Rattle.tcl_recorder.specs.Crossings.{events_of}
use Rattle.tcl_player.proofs.moves.moves_of.Given as goal

abbrev pub invariant-loop-crossing : goal.invariant-loop-crossing
invariant-loop-crossing l = moves_in l.moves.items ≡ views.moves_of (events_of (take l.crossing-index l.fn.crossings))
