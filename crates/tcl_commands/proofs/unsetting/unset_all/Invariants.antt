use Rattle.std.proofs.Common.{drop}
use Rattle.tcl_language.specs.Variables.{unset_all}
use Rattle.tcl_commands.specs.Steps.{IsOnWay}
use Rattle.tcl_commands.proofs.unsetting.unset_all.Given as goal

abbrev pub invariant-names : goal.invariant-names
invariant-names l = IsOnWay l.fn.tree l.fn.place (λ style. unset_all l.fn.hides l.fn.names) l.tree (λ style. unset_all l.fn.hides (drop l.name-index l.fn.names))
