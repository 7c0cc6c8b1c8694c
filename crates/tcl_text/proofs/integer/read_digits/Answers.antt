use Rattle.std.proofs.Common.{arith, ◌≤◌, get_or, ap, sym, ◌∙◌, Err}
use Rattle.std.proofs.lemmas.Result.{err_from_is_err_and}
use Rattle.std.specs.Char.{digit_value}
use Rattle.tcl_text.proofs.Digits.{kept_more, no_digits, digit_found, digit_missing}
use Rattle.tcl_text.proofs.integer.read_digits.Goals as goal

pub returns-in_err-digit : goal.returns-in_err-digit
returns-in_err-digit c =
    let p = err_from_is_err_and c.from_residual.result c.from_residual.ensures.1 in
    let missing = digit_missing _ _ _ _ _ c.to_digit.ensures.value (sym c.ok_or.ensures.value ∙ c.in_err-digit.was) in
    let same = ap digit_value c.from.ensures in
    let large : c.args.base ≤ digit_value (get_or c.args.digits.now c.digits.byte-index 0) = grind (arith, same, missing.0) in
    let err = no_digits c.args.base c.args.digits.now c.digits.byte-index (omega arith) large in
    p.1 ∙ ap (λ f. Err f) (p.2 ∙ missing.1) ∙ sym err

pub digits-preserved : goal.digits-preserved
digits-preserved c =
    let found = digit_found _ _ _ _ _ c.to_digit.ensures.value (sym c.ok_or.ensures.value ∙ c.in_ok-digit.was) in
    let same = ap digit_value c.from.ensures in
    kept_more c.args.base c.args.digits.now c.digits.byte-index c.in_ok-digit.digit _ (omega arith) (found.1 ∙ same) (omega (arith, found.0, found.1)) c.digits.invariant.0 (c.one_more_digit-sum.ensures _ c.digits.invariant.1)
