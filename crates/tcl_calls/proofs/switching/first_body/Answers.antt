use Rattle.std.proofs.Common.{◌≡◌, rules, true, false, sym, ◌∙◌, arith}
use Rattle.std.specs.Prelude.{codes}
use Rattle.std.specs.Str.{bytes_eq}
use Rattle.tcl_calls.proofs.Choosing.{first_none, first_on, second_left}
use Rattle.tcl_calls.proofs.switching.first_body.Goals as goal

pub returns-then-not-is_text : goal.returns-then-not-is_text
returns-then-not-is_text c =
    let two = second_left c.bodies.left.now c.body-item.result c.in-len2-up.len_at_least c.body-item.is in
    let other : bytes_eq c.body-item.result (codes "-") ≡ false = search rules in
    sym (c.bodies.invariant ∙ first_on c.bodies.left.now two.0 c.body-item.result _ false two.1 other)

pub bodies-preserved : goal.bodies-preserved
bodies-preserved c =
    let two = second_left c.bodies.left.now c.body-item.result c.in-len2-up.len_at_least c.body-item.is in
    let same : bytes_eq c.body-item.result (codes "-") ≡ true = search rules in
    c.bodies.invariant ∙ first_on c.bodies.left.now two.0 c.body-item.result _ true two.1 same

pub returns : goal.returns
returns c = sym (c.bodies.invariant ∙ first_none c.bodies.left.now (omega arith))
