use Rattle.std.proofs.Common.{◌≤◌, length, ap, arith}
use Rattle.std.proofs.lemmas.Bool.Decides.{nat_tests}
use Rattle.tcl_characters.proofs.SkipLemmas.{NoneFits, none_passed}
use Rattle.tcl_characters.proofs.mapping.behind_no_lead.Goals as goal

pub returns-then-begins_some_key : goal.returns-then-begins_some_key
returns-then-begins_some_key c =
    none_passed c.args.mapping.now c.args.text.now c.range_from.result.now c.bytes.at c.utf8.text c.range_from.utf8 c.bytes.invariant.0 c.bytes.invariant.1 c.range_from.ensures.value

pub returns : goal.returns
returns c =
    let size = ap length c.as_bytes-bytes.ensures.value in
    let ends = c.bytes-test.false in
    let all : length c.args.text.now ≤ c.bytes.at = grind (arith, nat_tests) in
    let end : length c.args.text.now ≤ length c.args.text.now = omega arith in
    let none : NoneFits c.args.mapping.now c.args.text.now (length c.args.text.now) = λ i before u. c.bytes.invariant.1 i (omega (arith, before, all)) u in
    none_passed c.args.mapping.now c.args.text.now c.range_from-2.result.now (length c.args.text.now) c.utf8.text c.range_from-2.utf8 end none c.range_from-2.ensures.value
