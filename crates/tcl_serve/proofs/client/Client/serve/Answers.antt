use Rattle.std.proofs.Common.{rules}
use Rattle.tcl_serve.specs.Clients.Waits.{at_once, later}
use Rattle.tcl_serve.proofs.client.Client.serve.Goals as goal

pub lines-init : goal.lines-init
lines-init g c = at_once

pub lines-preserved : goal.lines-preserved
lines-preserved g c = later _ _ c.lines.invariant (search rules)
