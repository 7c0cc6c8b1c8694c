use Rattle.std.proofs.Common.{sym, subst, w64, FitsSigned}
use Rattle.std.proofs.lemmas.Int.{to_z-of_z}
use Rattle.tcl_value.proofs.value.Value.from_int.Goals as goal

pub invariant_of-result : goal.invariant_of-result
invariant_of-result c = subst (FitsSigned w64) (sym (to_z-of_z w64 c.args.n c.ranges.n)) c.ranges.n
