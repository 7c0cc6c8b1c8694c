use Rattle.std.proofs.Common.{◌<◌, length, get_or, arith, ap, sym, ◌∙◌}
use Rattle.std.proofs.lemmas.Str.{IsCharBoundary-after_ascii}
use Rattle.std.proofs.lemmas.Bool.Decides.{nat_tests}
use Rattle.tcl_parser.proofs.scan.split_ascii.Goals as goal

pub split_at-requires : goal.split_at-requires
split_at-requires c =
    let s = c.args.text.now in
    let whole = c.as_bytes-bytes.ensures.value in
    let len = ap length whole in
    let head = ap (λ t. get_or t 0 0) whole in
    let test = sym c.is_empty.ensures ∙ c.if-is_empty.false in
    let some : 0 < length s = grind (arith, nat_tests) in
    let small : get_or s 0 0 < 128 = omega arith in
    IsCharBoundary-after_ascii s 0 c.utf8.text some small
