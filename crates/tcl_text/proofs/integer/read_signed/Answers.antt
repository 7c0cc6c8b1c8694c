use Rattle.std.proofs.Common.{ap, sym, ◌∙◌, Err}
use Rattle.std.proofs.lemmas.Result.{err_from_is_err_and}
use Rattle.tcl_text.specs.Numbers.{in_64_bits, unsigned}
use Rattle.tcl_text.proofs.Digits.{sign_err}
use Rattle.tcl_text.proofs.integer.read_signed.Goals as goal

pub returns-in_err-magnitude : goal.returns-in_err-magnitude
returns-in_err-magnitude c =
    let p = err_from_is_err_and c.from_residual.result c.from_residual.ensures.1 in
    let fails = sym c.read_unsigned.ensures ∙ c.in_err-magnitude.was in
    let sign = sign_err c.split_sign-negative.result.0 (unsigned c.args.style c.split_sign-negative.result.1.now) c.in_err-magnitude.field-0.0 fails in
    let spec = ap in_64_bits (c.split_sign-negative.ensures c.args.style) in
    p.1 ∙ ap (λ f. Err f) p.2 ∙ sym sign ∙ sym spec
