use Rattle.std.proofs.Common.{subst, sym}
use Rattle.tcl_calls.specs.Looking.{Passes}
use Rattle.tcl_interp.specs.Programs.{allowed}
use Rattle.tcl_interp.specs.declared.limits.LimitOf.{LimitOf}
use Rattle.tcl_interp.proofs.limits.allow.Goals as goal

pub returns-in-Steps : goal.returns-in-Steps
returns-in-Steps c = subst (λ (x : LimitOf). Passes c.args.tree.now c.args.place (λ rest style. allowed x c.args.path.now (rest style)) c.below_itself.result) (sym c.in-Steps.is) c.below_itself.ensures

pub returns-in-Depth : goal.returns-in-Depth
returns-in-Depth c = subst (λ (x : LimitOf). Passes c.args.tree.now c.args.place (λ rest style. allowed x c.args.path.now (rest style)) c.unless_root.result) (sym c.in-Depth.is) c.unless_root.ensures
