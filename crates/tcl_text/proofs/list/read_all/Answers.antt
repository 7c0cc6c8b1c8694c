use Rattle.std.proofs.Common.{rules, ◌++◌, ◌∷◌, [], arith, ◌∙◌, ap, length, length-drop}
use Rattle.std.specs.List.{prefix_len}
use Rattle.std.proofs.lemmas.Result.{err_from_is_err_and}
use Rattle.tcl_text.specs.Lists.{is_white, list_of}
use Rattle.tcl_text.proofs.Steps.{with_front, front_nil, not_nil, is_nil, white_dark, white_same, fails_on, list_step, list_done}
use Rattle.tcl_text.proofs.list.read_all.Goals as goal

pub elements-init : goal.elements-init
elements-init c = (
  search rules,
  white_dark c.args.text.now c.skip_white-rest.result.now c.skip_white-rest.ensures.rest,
  ap (λ z. with_front z (list_of c.skip_white-rest.result.now)) c.new-list.ensures.items ∙ front_nil (list_of c.skip_white-rest.result.now) ∙ white_same c.args.text.now c.skip_white-rest.result.now c.skip_white-rest.ensures.rest,
)

pub returns-in_err-element : goal.returns-in_err-element
returns-in_err-element c =
    let p = err_from_is_err_and c.from_residual.result c.from_residual.ensures.1 in
    let some = not_nil c.elements.rest.now c.elements-test.ensures in
    rw (p.1, p.2) (fails_on _ c.args.text.now c.elements.rest.now c.elements.list.items c.elements.invariant.2 c.elements.invariant.1 some c.in_err-element.ensures)

pub elements-smaller : goal.elements-smaller
elements-smaller c =
    let some = not_nil c.elements.rest.now c.elements-test.ensures in
    let step = list_step c.args.text.now c.elements.rest.now c.in_ok-element.element c.in_ok-element.after.now c.elements.list.items c.elements.invariant.2 c.elements.invariant.1 some c.in_ok-element.ensures in
    let less = step.shorter in
    let left = ap length c.skip_white-rest-in-elements.ensures.rest in
    omega (arith, length-drop (prefix_len is_white c.in_ok-element.after.now) c.in_ok-element.after.now)

pub elements-preserved : goal.elements-preserved
elements-preserved c =
    let some = not_nil c.elements.rest.now c.elements-test.ensures in
    let step = list_step c.args.text.now c.elements.rest.now c.in_ok-element.element c.in_ok-element.after.now c.elements.list.items c.elements.invariant.2 c.elements.invariant.1 some c.in_ok-element.ensures in
    let rest = c.skip_white-rest-in-elements.result.now in (
      search rules,
      white_dark c.in_ok-element.after.now rest c.skip_white-rest-in-elements.ensures.rest,
      ap (λ z. with_front z (list_of rest)) c.in_ok-push.ensures.items
          ∙ ap (with_front (c.elements.list.items ++ c.in_ok-element.element ∷ [])) (white_same c.in_ok-element.after.now rest c.skip_white-rest-in-elements.ensures.rest)
          ∙ step.goes,
    )

pub returns : goal.returns
returns c = list_done c.args.text.now c.elements.rest.now c.elements.list.items c.elements.invariant.2 (is_nil c.elements.rest.now c.elements-test.ensures)
