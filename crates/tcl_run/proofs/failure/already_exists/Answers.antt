use Rattle.std.proofs.Common.{◌∷◌, [], ap, ◌∙◌, append_assoc}
use Rattle.std.specs.Prelude.{codes}
use Rattle.tcl_core.specs.Endings.Reply.{Completed}
use Rattle.tcl_core.specs.Paths.{Text}
use Rattle.tcl_run.specs.Ends.{failing}
use Rattle.tcl_run.proofs.Endings.{Interrupts-more}
use Rattle.tcl_run.proofs.failure.already_exists.Goals as goal

pub returns : goal.returns
returns c = Interrupts-more c.failure_quoting.result _ _ (λ r e. e ∙ ap (λ (t : Text). Completed (failing (34 ∷ t))) (append_assoc c.args.name.now (34 ∷ []) (codes " already exists"))) c.failure_quoting.ensures
