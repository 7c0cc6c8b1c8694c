use Rattle.tcl_core.proofs.MoreMoves.{more_moves}
use Rattle.tcl_core.proofs.more_moves.Goals as goal

pub returns : goal.returns
returns g c = more_moves
