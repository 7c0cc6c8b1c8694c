use Rattle.std.proofs.Common.{rules, sym, ap, ◌∙◌}
use Rattle.tcl_frames.specs.Chain.{after_set}
use Rattle.tcl_frames.proofs.FrameLemmas.{at_some}
use Rattle.tcl_commands.proofs.Same.{set_same}
use Rattle.tcl_commands.proofs.keeping.keep_in_frames.Goals as goal

pub returns-in-Some : goal.returns-in-Some
returns-in-Some c =
    let lent = c.scalar_mut_near in
    let new = c.keep_in_value.new.value in
    set_same c.args.frames.now (lent.follows.lender new) c.args.name.now c.in-Some.value.now c.in-Some.ensures.scalar
    (ap (after_set c.args.frames.now c.args.name.now) (sym c.keep_in_value.ensures) ∙ at_some lent.result c.in-Some.value c.in-Some.is (lent.follows.holds new))

pub returns-in-Ok : goal.returns-in-Ok
returns-in-Ok c =
    let near = c.scalar_mut_near.follows in
    let lent = c.get_mut in
    let new = c.keep_in_value-in-Ok.new.value in
    set_same near.lender-at-none (lent.follows.lender new) c.text.result.now c.in-Ok.value.now c.in-Ok.ensures.ok
    (ap (after_set near.lender-at-none c.text.result.now) (sym c.keep_in_value-in-Ok.ensures) ∙ lent.follows.holds new (search rules))
    ∙ near.holds-at-none
