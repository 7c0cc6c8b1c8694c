use Rattle.std.proofs.Common.{◌≡◌, ◌<◌, ◌+◌, ◌*◌, rules, true, false, [], Some, drop, get_or, length, length-drop, sym, ◌∙◌, ap, arith}
use Rattle.std.specs.Prelude.{codes}
use Rattle.tcl_calls.proofs.Choosing.{body_at, element_is, first_none, same_bytes}
use Rattle.tcl_calls.proofs.switching.first_body_from.Goals as goal

pub returns-then-not-is_at : goal.returns-then-not-is_at
returns-then-not-is_at c =
    let index = 2 * c.bodies.pair + 1 in
    let within : index < length c.args.pairs.now = omega (arith, c.bodies-test.true, c.len-pair-end.ensures) in
    let other : c.is_at.result ≡ false = search rules in
    let same = same_bytes c.is_at.result (get_or c.args.pairs.now index []) (codes "-") c.is_at.ensures in
    ap Some (element_is c.args.pairs.now index c.in_ok-get.field-0 within c.in_ok-get.ensures)
    ∙ sym (c.bodies.invariant ∙ body_at c.args.pairs.now c.bodies.pair false within (sym same ∙ other))

pub bodies-preserved : goal.bodies-preserved
bodies-preserved c =
    let index = 2 * c.bodies.pair + 1 in
    let within : index < length c.args.pairs.now = omega (arith, c.bodies-test.true, c.len-pair-end.ensures) in
    let one : c.is_at.result ≡ true = search rules in
    let same = same_bytes c.is_at.result (get_or c.args.pairs.now index []) (codes "-") c.is_at.ensures in
    c.bodies.invariant ∙ body_at c.args.pairs.now c.bodies.pair true within (sym same ∙ one)

pub returns : goal.returns
returns c =
    let left = length-drop (2 * c.bodies.pair) c.args.pairs.now in
    sym (c.bodies.invariant ∙ first_none (drop (2 * c.bodies.pair) c.args.pairs.now) (omega (arith, left, c.bodies-test.false, c.len-pair-end.ensures)))
