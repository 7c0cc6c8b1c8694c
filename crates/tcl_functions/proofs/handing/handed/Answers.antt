use Rattle.tcl_functions.proofs.Kept.{kept}
use Rattle.tcl_functions.proofs.handing.handed.Goals as goal

pub returns-in_default : goal.returns-in_default
returns-in_default c = kept c.args.target.now c.args.entry (λ o is. c.in_default.not-Own o is)
