use Rattle.std.proofs.Common.{List, ℕ}
use Rattle.tcl_tree.specs.TreeOf.{Names}
use Rattle.trials.proofs.benches.tree.charge_often.Given as goal

-- the place still names an interpreter
abbrev pub invariant-times : goal.invariant-times
invariant-times l = (p : List (List ℕ)) × Names l.tree l.place p
