use Rattle.std.proofs.Common.{drop}
use Rattle.tcl_language.specs.Variables.{global_all}
use Rattle.tcl_commands.specs.Steps.{IsOnWay}
use Rattle.tcl_commands.proofs.links.global_all.Given as goal

abbrev pub invariant-names : goal.invariant-names
invariant-names l = IsOnWay l.fn.tree l.fn.place (λ style. global_all l.fn.names) l.tree (λ style. global_all (drop l.name-index l.fn.names))
