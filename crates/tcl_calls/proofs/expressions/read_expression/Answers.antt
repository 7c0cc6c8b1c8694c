use Rattle.tcl_calls.proofs.Kept.{kept_is}
use Rattle.tcl_calls.proofs.expressions.read_expression.Goals as goal

pub returns-in-Some-clause-read : goal.returns-in-Some-clause-read
returns-in-Some-clause-read c =
    kept_is c.args.style c.args.value.now c.in-Some.kept.value c.in-Some.ensures
