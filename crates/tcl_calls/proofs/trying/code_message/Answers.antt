use Rattle.std.proofs.Common.{◌≡◌, subst}
use Rattle.std.specs.Prelude.{IfOk}
use Rattle.tcl_core.specs.Paths.{Text}
use Rattle.tcl_flow.specs.Returning.{options_message}
use Rattle.tcl_flow.specs.declared.returning.OptionsFault.TheVariants.{BadCode}
use Rattle.tcl_calls.proofs.trying.code_message.Goals as goal

pub returns : goal.returns
returns c = subst (λ (x : Text). IfOk c.message.result (λ text. text ≡ options_message (BadCode x))) c.in_ok-word.ensures c.message.ensures
