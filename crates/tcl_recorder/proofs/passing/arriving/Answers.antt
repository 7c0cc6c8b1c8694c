use Rattle.std.proofs.Common.{◌≡◌, ◌<◌, length, sym, ◌∙◌, ap, arith}
use Rattle.std.proofs.lemmas.Bool.Decides.{nat_tests}
use Rattle.std.specs.Option.{option_copied}
use Rattle.tcl_recorder.proofs.Boundaries.{arrives_at_c, arrives_below, arrives_beside}
use Rattle.tcl_recorder.proofs.passing.arriving.Goals as goal

pub returns-in_err-rest : goal.returns-in_err-rest
returns-in_err-rest c =
    ap option_copied c.from_residual.ensures
    ∙ sym (arrives_beside c.args.top.now c.args.from.now c.args.down.now (sym c.below.ensures ∙ ap option_copied c.in_err-rest.was))

pub returns-then-is_empty : goal.returns-then-is_empty
returns-then-is_empty c =
    let is = c.is_empty.ensures in
    let test = c.if-is_empty.true in
    let none : length c.in_ok-rest.rest.now ≡ 0 = grind (arith, nat_tests) in
    sym (arrives_at_c c.args.top.now c.args.from.now c.args.down.now c.in_ok-rest.rest.now (sym c.below.ensures ∙ ap option_copied c.in_ok-rest.was) none)

pub returns : goal.returns
returns c =
    let is = c.is_empty.ensures in
    let test = c.if-is_empty.false in
    let some : 0 < length c.in_ok-rest.rest.now = grind (arith, nat_tests) in
    c.below-2.ensures ∙ sym (arrives_below c.args.top.now c.args.from.now c.args.down.now c.in_ok-rest.rest.now (sym c.below.ensures ∙ ap option_copied c.in_ok-rest.was) some)
