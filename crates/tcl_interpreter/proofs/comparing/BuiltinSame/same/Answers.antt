use Rattle.std.proofs.Common.{sym, ◌∙◌}
use denote.Enum.Bare.{same_true, true_same}
use Rattle.tcl_interpreter.specs.contracts.builtin.Builtin.{the_type}
use Rattle.tcl_interpreter.proofs.comparing.BuiltinSame.same.Goals as goal

pub returns : goal.returns
returns c = (λ t. same_true the_type tt _ _ (sym c.eq.ensures ∙ t), λ e. c.eq.ensures ∙ true_same the_type _ _ e)
