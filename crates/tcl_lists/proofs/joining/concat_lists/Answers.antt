use Rattle.std.proofs.Common.{◌≡◌, IfSome, ◌-◌, length, take, drop, sym, ◌∙◌, subst}
use Rattle.tcl_value.specs.Writing.{write}
use Rattle.tcl_value.specs.Plain.{ArePlain}
use Rattle.tcl_value.proofs.Plain.{ArePlain-append}
use Rattle.tcl_lists.proofs.Placed.{first_and_rest}
use Rattle.tcl_lists.proofs.Plain.{begun, one_more}
use Rattle.tcl_lists.proofs.joining.concat_lists.Goals as goal

pub rest-init : goal.rest-init
rest-init c =
    let words = c.args.words.now in
    let rest = take (length words - 1) (drop 1 words) in
    let text = subst (λ o. IfSome o (λ list. c.first-item.result ≡ write list)) c.in-Some.is c.in_ok-made.ensures.text in
    let plain = subst (λ o. IfSome o ArePlain) c.in-Some.is c.in_ok-made.ensures.plain in
    (begun words rest c.in-Some.made c.first-item.result (first_and_rest words c.first-item.result c.in-len1-up.len_at_least c.first-item.is) text plain, plain)

pub rest-preserved : goal.rest-preserved
rest-preserved c =
    let words = c.args.words.now in
    let rest = take (length words - 1) (drop 1 words) in
    let list = c.in-Some-2.list in
    let text = subst (λ o. IfSome o (λ list. c.word-item.result ≡ write list)) c.in-Some-2.is c.in_ok-list.ensures.text in
    let plain = subst (λ o. IfSome o ArePlain) c.in-Some-2.is c.in_ok-list.ensures.plain in (
      one_more rest c.rest.made list c.add_list.new.made c.word-item.result c.rest.word-index c.rest-test.true c.word-item.is text c.if-not-add_list.ensures c.rest.invariant.1 plain ∙ c.rest.invariant.0,
      subst ArePlain (sym c.if-not-add_list.ensures) (ArePlain-append c.rest.made list c.rest.invariant.1 plain),
    )
