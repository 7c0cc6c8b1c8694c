use Rattle.std.proofs.Common.{arith, rules, ◌∙◌, sym, IsErrOf, ◌++◌, ◌∷◌, [], slice_set}
use Rattle.tcl_value.specs.Limits.{IsPast}
use Rattle.tcl_value.specs.Writing.{write}
use Rattle.tcl_value.specs.declared.value.ValueError.TheVariants.{TooLong}
use Rattle.tcl_lists.proofs.Placed.{placed_inside, placed_behind, set_past, push_past, made_of}
use Rattle.tcl_lists.proofs.step.with_element.Goals as goal
use Rattle.tcl_lists.proofs.step.with_element.Goals.{then-place-len+in_ok-set, else-place-len+in_ok-push}

pub returns-in_err-set-clause-refused : goal.returns-in_err-set-clause-refused
returns-in_err-set-clause-refused c =
    let told : IsErrOf c.from_residual.result TooLong → IsPast (write (slice_set c.args.list c.args.place c.args.element)) = search rules in
    set_past c.args.place c.args.element c.args.list (omega (arith, c.len.ensures, c.if-place-len.true)) told

pub returns-in_err-push-clause-refused : goal.returns-in_err-push-clause-refused
returns-in_err-push-clause-refused c =
    let told : IsErrOf c.from_residual-in_err-push.result TooLong → IsPast (write (c.args.list ++ c.args.element ∷ [])) = search rules in
    push_past c.args.place c.args.element c.args.list (omega (arith, c.len.ensures, c.if-place-len.false)) told

pub returns-clause-made : goal.returns-clause-made
returns-clause-made c =
    elim c.if-place-len.branch [
      | then-place-len+in_ok-set w ↦ made_of c.from_list.result c.args.place c.args.element c.args.list c.if-place-len.list (w.list-is ∙ w.in_ok-set.ensures.set ∙ sym (placed_inside c.args.place c.args.element c.args.list (omega (arith, c.len.ensures, w.if-place-len.true)))) c.from_list.ensures.made
      | else-place-len+in_ok-push w ↦ made_of c.from_list.result c.args.place c.args.element c.args.list c.if-place-len.list (w.list-is ∙ w.in_ok-push.ensures.pushed ∙ sym (placed_behind c.args.place c.args.element c.args.list (omega (arith, c.len.ensures, w.if-place-len.false)))) c.from_list.ensures.made
    ]
