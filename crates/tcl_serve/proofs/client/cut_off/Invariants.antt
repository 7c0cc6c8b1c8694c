use Rattle.std.proofs.Common.{◌≡◌, ◌++◌, List, vec_len}
use Rattle.tcl_serve.specs.Clients.{AllCut}
use Rattle.tcl_serve.specs.declared.open.Awaited.{Awaited}
use Rattle.tcl_serve.proofs.client.cut_off.Given as goal

abbrev pub invariant-awaited : goal.invariant-awaited
invariant-awaited g l = (done : List Awaited) × (l.initial.awaited.items ≡ l.awaited.items ++ done) × AllCut l.initial.lines done l.lines

abbrev pub decreases-awaited : goal.decreases-awaited
decreases-awaited g l = vec_len l.awaited
