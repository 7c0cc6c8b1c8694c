use Rattle.std.proofs.Common.{arith, ◌∙◌, ap, sym, Ok, ◌≡◌}
use Rattle.std.proofs.lemmas.Result.{err_from_is_err_and}
use Rattle.tcl_value.specs.Reading.{list_of}
use Rattle.tcl_lists.specs.Nested.{next, list_in, with_element}
use Rattle.tcl_value.specs.Writing.{write}
use Rattle.tcl_lists.proofs.Placed.{set_done, push_done, set_refused, push_refused, given_on, kept_on}
use Rattle.tcl_lists.proofs.nested.put_element.Goals as goal
use Rattle.tcl_lists.proofs.nested.put_element.Goals.{then-place-count+in_ok-set_at, else-place-count+in_ok-push}

pub returns-in_err-set_at-clause-refused : goal.returns-in_err-set_at-clause-refused
returns-in_err-set_at-clause-refused c =
    let p = err_from_is_err_and c.from_residual-in_err-set_at.result c.from_residual-in_err-set_at.ensures.1 in
    let same = c.in_ok-as_list.ensures.text in
    given_on c.from_residual-in_err-set_at.result p.0 _ p.1
    (kept_on p.0 _ c.as_list.new.self c.args.own.now c.args.place c.args.element p.2 same
    (set_refused c.in_err-set_at.field-0.0 c.as_list.new.self c.in_ok-as_list.field-0 c.args.place c.args.element (ap list_of same ∙ c.in_ok-as_list.ensures.read) (omega (arith, c.len-count.ensures, c.if-place-count.true)) c.in_err-set_at.ensures.refused))

pub returns-in_err-push-clause-refused : goal.returns-in_err-push-clause-refused
returns-in_err-push-clause-refused c =
    let p = err_from_is_err_and c.from_residual-in_err-push.result c.from_residual-in_err-push.ensures.1 in
    let same = c.in_ok-as_list.ensures.text in
    given_on c.from_residual-in_err-push.result p.0 _ p.1
    (kept_on p.0 _ c.as_list.new.self c.args.own.now c.args.place c.args.element p.2 same
    (push_refused c.in_err-push.field-0.0 c.as_list.new.self c.in_ok-as_list.field-0 c.args.place c.args.element (ap list_of same ∙ c.in_ok-as_list.ensures.read) (omega (arith, c.len-count.ensures, c.if-place-count.false)) c.in_err-push.ensures.refused))

pub returns-clause-changed : goal.returns-clause-changed
returns-clause-changed c =
    let same = c.in_ok-as_list.ensures.text in
    let read : list_of c.as_list.new.self ≡ Ok c.in_ok-as_list.field-0 = ap list_of same ∙ c.in_ok-as_list.ensures.read in
    let before = ap (λ t. next (list_in t) (λ l. Ok (write (with_element c.args.place c.args.element l)))) (sym same) in
    elim c.if-place-count.branch [
      | then-place-count+in_ok-set_at w ↦
          before ∙ set_done c.as_list.new.self w.set_at.new.self c.in_ok-as_list.field-0 c.args.place c.args.element read w.in_ok-set_at.ensures.set ∙ ap (λ z. Ok z) (sym w.own-is)
      | else-place-count+in_ok-push w ↦
          before ∙ push_done c.as_list.new.self w.push.new.self c.in_ok-as_list.field-0 c.args.place c.args.element read (omega (arith, c.len-count.ensures, w.if-place-count.false)) w.in_ok-push.ensures.pushed ∙ ap (λ z. Ok z) (sym w.own-is)
    ]
