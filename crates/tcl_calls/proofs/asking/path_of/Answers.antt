use Rattle.std.proofs.Common.{subst}
use Rattle.tcl_core.specs.Paths.{Text}
use Rattle.tcl_language.specs.Interpreters.{at_path}
use Rattle.tcl_calls.specs.Looking.{Finds}
use Rattle.tcl_calls.proofs.asking.path_of.Goals as goal

pub returns-clause-read : goal.returns-clause-read
returns-clause-read c = subst (λ (x : Text). Finds c.args.tree.now c.args.place (λ found. found.path.items) (λ rest style. at_path x (λ path n. rest path style)) c.path_at.result) c.in_ok-text.ensures c.path_at.ensures.read
