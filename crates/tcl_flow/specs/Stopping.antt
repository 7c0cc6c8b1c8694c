-- What stops, as the core has it.
use Rattle.tcl_core.specs.Endings as core
use Rattle.tcl_flow.specs.declared.stop.StopKind.{StopKind}
use Rattle.tcl_flow.specs.declared.stop.StopKind.TheVariants.{Count, Depth, Gone}
use Rattle.tcl_flow.specs.declared.stop.Stop.{Stop}

abbrev pub kind_of : StopKind → core.Kind
kind_of Count = core.Full core.Count
kind_of Depth = core.Full core.Depth
kind_of Gone = core.Gone

abbrev pub reply_of : Stop → core.Reply
reply_of s = core.Stop s.levels_up (kind_of s.kind)
