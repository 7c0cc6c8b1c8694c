use Rattle.std.proofs.Common.{subst}
use Rattle.tcl_value.specs.Limits.{IsWithin}
use Rattle.tcl_value.proofs.Changed.{form_within}
use Rattle.tcl_value.proofs.value.Value.keeps_limit.Goals as goal

pub returns : goal.returns
returns c = subst IsWithin c.self.view_is (form_within c.self.inside.form c.self.invariant)
