use Rattle.tcl_functions.proofs.Kept.{kept_own}
use Rattle.tcl_functions.proofs.handing.handed_own.Goals as goal

pub returns-in_default : goal.returns-in_default
returns-in_default c = kept_own c.args.target.now c.args.own (λ name alias is. c.in_default.not-SetAlias name alias is)
