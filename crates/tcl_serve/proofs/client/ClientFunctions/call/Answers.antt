use Rattle.tcl_serve.proofs.Turning.{if_ok_more}
use Rattle.tcl_serve.proofs.client.ClientFunctions.call.Goals as goal

pub returns : goal.returns
returns g c = if_ok_more c.serve.result _ _ (λ a h. record { told = c.tell.new.self; left = h.0; tells = c.in_ok-tell.ensures; waits = h.1; acts = h.2 }) c.serve.ensures
