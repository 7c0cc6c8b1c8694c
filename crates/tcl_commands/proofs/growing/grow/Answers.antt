use Rattle.std.proofs.Common.{rules}
use Rattle.tcl_commands.specs.GrowthKinds.{first_of, grown_by}
use Rattle.tcl_commands.proofs.Growths.{grows_lent}
use Rattle.tcl_commands.proofs.growing.grow.Goals as goal

pub returns-in-Ok : goal.returns-in-Ok
returns-in-Ok c =
    grows_lent c.args.frames.now (c.get_mut.follows.lender c.grow_value.new.value) (first_of c.args.growth) c.args.name.now c.in-Ok.value.now c.grow_value.new.value (grown_by c.args.growth c.args.more.now) c.grow_value.result
    c.in-Ok.ensures.ok (c.get_mut.follows.holds c.grow_value.new.value (search rules)) c.grow_value.ensures
