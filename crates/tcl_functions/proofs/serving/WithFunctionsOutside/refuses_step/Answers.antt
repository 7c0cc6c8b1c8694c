use Rattle.std.proofs.Common.{◌≡◌, true, false}
use Rattle.tcl_functions.proofs.serving.WithFunctionsOutside.refuses_step.Goals as goal

pub returns-clause-told : goal.returns-clause-told
returns-clause-told g c = λ e T p. let clash : true ≡ false = e in absurd cc
