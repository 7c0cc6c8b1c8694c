use Rattle.tcl_reactions.proofs.Reacted.{played_is_react}
use Rattle.tcl_reactions.proofs.played_is_react.Goals as goal

pub returns : goal.returns
returns g c = played_is_react
