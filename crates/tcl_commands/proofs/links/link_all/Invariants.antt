use Rattle.std.proofs.Common.{length}
use Rattle.tcl_language.specs.Variables.{link_all}
use Rattle.tcl_commands.specs.Steps.{IsOnWay}
use Rattle.tcl_commands.proofs.links.link_all.Given as goal

abbrev pub invariant-names : goal.invariant-names
invariant-names l = IsOnWay l.fn.tree l.fn.place (λ style. link_all l.fn.level l.fn.names) l.tree (λ style. link_all l.fn.level l.left)

abbrev pub decreases-names : goal.decreases-names
decreases-names l = length l.left
