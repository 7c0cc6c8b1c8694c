use Rattle.std.proofs.Common.{◌≡◌, Bool, true, false, not, refl, sym, ◌∙◌}
use Rattle.tcl_calls.proofs.Binding.{some_straight}
use Rattle.tcl_calls.proofs.procedures.is_straight.Goals as goal

is_other : (b : Bool) → not b ≡ true → b ≡ false
is_other true e = sym e
is_other false e = refl

pub returns-in-len1-up-clause-bound : goal.returns-in-len1-up-clause-bound
returns-in-len1-up-clause-bound c = λ is.
    some_straight c.args.parameters.now c.last-item.result c.args.args.now c.in-len1-up.len_at_least c.if-parameters-args.false c.last-item.is
    (sym c.is_rest.ensures ∙ is_other c.is_rest.result is)
