use Rattle.std.proofs.Common.{subst}
use Rattle.tcl_value.specs.Limits.{IsWithin}
use Rattle.tcl_value.proofs.Changed.{form_within}
use Rattle.tcl_value.proofs.value.Value.text_len.Goals as goal

pub returns-in-Number-clause-within : goal.returns-in-Number-clause-within
returns-in-Number-clause-within c = subst IsWithin c.self.view_is (form_within c.self.inside.form c.self.invariant)
