use Rattle.std.proofs.Common.{◌<◌, ◌∙◌, sym, ap, subst, arith, cond, length, Some, take, Option, ℕ, IfSome}
use Rattle.tcl_text.specs.Indexes.{last_operator}
use Rattle.tcl_text.proofs.Operators.{operator_next}
use Rattle.tcl_text.proofs.index.last_operator.Goals as goal
use Rattle.tcl_text.proofs.index.last_operator.Goals.{then-is_operator, else-is_operator}

pub bytes-preserved : goal.bytes-preserved
bytes-preserved c =
    let next = operator_next c.args.text.now c.bytes.i (omega arith) in
    let within : Option ℕ → Type 0 = λ o. IfSome o (λ at. at < length c.args.text.now) in
    let chosen = λ (t : _). cond t (Some c.bytes.i) (last_operator (take c.bytes.i c.args.text.now)) in
    elim c.if-is_operator.branch [
      | then-is_operator w ↦ (w.found-is ∙ sym (next ∙ ap chosen (sym c.is_operator.ensures ∙ w.if-is_operator.true)), subst within (sym w.found-is) (omega arith))
      | else-is_operator w ↦ (w.found-is ∙ c.bytes.invariant.0 ∙ sym (next ∙ ap chosen (sym c.is_operator.ensures ∙ w.if-is_operator.false)), subst within (sym w.found-is) c.bytes.invariant.1)
    ]
