use Rattle.std.proofs.Common.{◌∙◌, ap, Ok}
use Rattle.tcl_calls.proofs.lookup.builtin_named.Goals as goal

pub returns-in-Builtin : goal.returns-in-Builtin
returns-in-Builtin c = λ p n names there. c.in_ok-builtin.ensures p n names there ∙ ap Ok c.in-Builtin.is
