use Rattle.tcl_calls.proofs.Kept.{kept_is}
use Rattle.tcl_calls.proofs.expressions.seek_expression.Goals as goal

pub returns-in-Ok-clause-read : goal.returns-in-Ok-clause-read
returns-in-Ok-clause-read c = kept_is c.args.style c.args.value.now c.in-Ok.kept.value c.in-Ok.ensures
