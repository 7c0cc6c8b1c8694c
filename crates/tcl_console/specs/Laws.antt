-- The host of a process keeps the laws of a host.
use Rattle.tcl_console.specs.Steps.{Seen, Steps}
use Rattle.tcl_host.specs.Hosts.{IsLawful}
use Rattle.tcl_host.specs.declared.request.Request.{Request}
use Rattle.tcl_host.specs.declared.reply.HostReply.{HostReply}

pub steps-lawful : (old new : Seen) (request : Request) (reply : HostReply) →
    Steps old request reply new → IsLawful old.failures new.failures request reply
steps-lawful old new request reply steps = steps.0
