use Rattle.std.proofs.Common.{true, false, sym}
use Rattle.tcl_frames.proofs.FrameLemmas.{at_some}
use Rattle.tcl_commands.specs.Changed.{altered}
use Rattle.tcl_commands.proofs.Alterations.{alters_lent, alters_there}
use Rattle.tcl_commands.proofs.changing.change_in.Goals as goal

pub returns-in-Some : goal.returns-in-Some
returns-in-Some c =
    let lent = c.scalar_mut_near in
    let new = c.change_value.new.value in
    alters_lent c.args.makes c.args.frames.now (lent.follows.lender new) c.args.name.now c.in-Some.value.now new (altered c.args.change) c.change_value.result
    c.in-Some.ensures.scalar (at_some lent.result c.in-Some.value c.in-Some.is (lent.follows.holds new)) c.change_value.ensures

pub returns-then-makes : goal.returns-then-makes
returns-then-makes c =
    let lent = c.scalar_mut_near.follows in
    alters_there true c.args.makes lent.lender-at-none c.args.frames.now c.change_or_make.new.frames c.text.result.now c.args.name.now (altered c.args.change) c.change_or_make.result
    (sym c.if-makes.true) lent.holds-at-none c.text.ensures c.change_or_make.ensures

pub returns-else-makes : goal.returns-else-makes
returns-else-makes c =
    let lent = c.scalar_mut_near.follows in
    alters_there false c.args.makes lent.lender-at-none c.args.frames.now c.change_held.new.frames c.text-else-makes.result.now c.args.name.now (altered c.args.change) c.change_held.result
    (sym c.if-makes.false) lent.holds-at-none c.text-else-makes.ensures c.change_held.ensures
