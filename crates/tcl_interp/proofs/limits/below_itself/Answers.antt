use Rattle.tcl_language.specs.Interpreters as interpreters
use Rattle.tcl_run.proofs.Endings.{Interrupts-more}
use Rattle.tcl_calls.proofs.Looks.{gets_as, gets_failed}
use Rattle.tcl_interp.proofs.Limiting.{below_goes, below_denied}
use Rattle.tcl_interp.proofs.limits.below_itself.Goals as goal

pub returns-in-empty : goal.returns-in-empty
returns-in-empty c = Interrupts-more c.denied.result _ _ (λ e f rest. gets_failed c.args.tree.now c.args.place (λ style. interpreters.below_itself c.args.path.now (rest style)) interpreters.denied e (λ style. below_denied c.args.path.now (rest style) c.in-empty.len_below) f) c.denied.ensures

pub returns-in-len1-up : goal.returns-in-len1-up
returns-in-len1-up c = λ rest. gets_as c.args.tree.now c.args.place (λ style. interpreters.below_itself c.args.path.now (rest style)) rest (λ style. below_goes c.args.path.now (rest style) c.in-len1-up.len_at_least)
