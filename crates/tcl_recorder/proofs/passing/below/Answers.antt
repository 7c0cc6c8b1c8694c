use Rattle.std.proofs.Common.{◌≡◌, ◌-◌, ◌≤◌, Some, length, drop, take, sym, ◌∙◌, ap, arith}
use Rattle.std.proofs.lemmas.Grind.{common_steps}
use Rattle.tcl_core.specs.Paths.{together}
use Rattle.tcl_recorder.proofs.Boundaries.{is_below, not_below}
use Rattle.tcl_recorder.proofs.passing.below.Goals as goal

pub returns-then-common-top : goal.returns-then-common-top
returns-then-common-top c =
    let names = c.in_common-common.ensures.names in
    let less = c.if-common-top.true in
    sym (not_below c.args.top.now c.args.path.now (omega arith))

pub returns : goal.returns
returns c =
    let path = c.args.path.now in
    let names = c.in_common-common.ensures.names in
    let these = c.in_common-common.ensures.these in
    let all = c.if-common-top.false in
    let same : c.in_common-common.result ≡ length c.args.top.now = omega arith in
    let le : length c.args.top.now ≤ together c.args.top.now path = omega arith in
    let whole : take (length path - c.in_common-common.result) (drop c.in_common-common.result path) ≡ drop c.in_common-common.result path = grind (arith, common_steps) in
    ap Some (whole ∙ ap (λ k. drop k path) same) ∙ sym (is_below c.args.top.now path le)
