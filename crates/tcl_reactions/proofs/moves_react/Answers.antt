use Rattle.tcl_core.specs.Meaning.{by_test}
use Rattle.tcl_reactions.proofs.Movements.{reacts}
use Rattle.tcl_reactions.proofs.moves_react.Goals as goal

pub returns : goal.returns
returns g c goes prog T V o limit b x life = reacts (by_test goes) prog T V o limit b x life
