use Rattle.tcl_language.specs.Interpreters as interpreters
use Rattle.tcl_calls.proofs.Looks.{gets_as}
use Rattle.tcl_interp.proofs.Limiting.{unless_goes}
use Rattle.tcl_interp.proofs.limits.unless_root.Goals as goal

pub returns-in-len1-up : goal.returns-in-len1-up
returns-in-len1-up c = λ rest. gets_as c.args.tree.now c.args.place (λ style. interpreters.unless_root c.args.path.now (rest style)) rest (λ style. unless_goes c.args.path.now (rest style) c.in-len1-up.len_at_least)
