use Rattle.std.proofs.Common.{◌∙◌, ◌++◌, ap, codes, ℤ, w64}
use Rattle.std.specs.Fmt.{signed_decimal}
use Rattle.std.proofs.lemmas.Int.{to_z-of_z}
use Rattle.tcl_flow.proofs.Lengths.{made_error}
use Rattle.tcl_flow.proofs.completion.other_code.Goals as goal

pub returns : goal.returns
returns c =
    let number = to_z-of_z w64 c.args.code c.ranges.code in
    made_error c.error.result c.in_ok-message.message c.args.code c.requires.not_ok c.requires.not_error c.requires.not_break c.requires.not_continue
    (c.in_ok-message.ensures ∙ ap (λ (n : ℤ). codes "command returned bad code: " ++ signed_decimal n) number) c.error.ensures
