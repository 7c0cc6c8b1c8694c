use Rattle.std.proofs.Common.{rules, false}
use Rattle.tcl_commands.specs.Changed.{altered}
use Rattle.tcl_commands.proofs.Alterations.{alters_lent}
use Rattle.tcl_commands.proofs.changing.change_held.Goals as goal

pub returns-in-Ok : goal.returns-in-Ok
returns-in-Ok c =
    alters_lent false c.args.frames.now (c.get_mut.follows.lender c.change_value.new.value) c.args.name.now c.in-Ok.value.now c.change_value.new.value (altered c.args.change) c.change_value.result
    c.in-Ok.ensures.ok (c.get_mut.follows.holds c.change_value.new.value (search rules)) c.change_value.ensures
