use Rattle.std.proofs.Common.{rules, ◌≡◌, ◌∙◌, ap, FitsSigned, w64}
use Rattle.std.proofs.lemmas.Int.{to_z-of_z}
use Rattle.std.specs.Fmt.{signed_decimal}
use Rattle.tcl_calls.proofs.Settling.{number_two}
use Rattle.tcl_calls.proofs.expressions.settle_two.Goals as goal

pub returns-in-Some : goal.returns-in-Some
returns-in-Some c =
    let fits : FitsSigned w64 c.in-Some.number = search rules in
    let made : c.from_int.result ≡ signed_decimal c.in-Some.number = c.from_int.ensures ∙ ap signed_decimal (to_z-of_z w64 c.in-Some.number fits) in
    number_two c.args.style c.args.operator c.args.left c.args.right c.in-Some.number c.from_int.result fits c.in-Some.ensures made
