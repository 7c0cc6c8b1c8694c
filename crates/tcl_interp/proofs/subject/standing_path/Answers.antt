use Rattle.std.proofs.Common.{subst}
use Rattle.tcl_core.specs.Paths.{Text}
use Rattle.tcl_language.specs.Interpreters.{at_path}
use Rattle.tcl_calls.specs.Looking.{Finds}
use Rattle.tcl_interp.proofs.subject.standing_path.Goals as goal

pub returns : goal.returns
returns c = subst (λ (x : Text). Finds c.args.tree.now c.args.place (λ path. path.items) (λ rest style. at_path x (λ path n. rest path style)) c.path_there.result) c.in_ok-text.ensures c.path_there.ensures
