use Rattle.tcl_host.proofs.NameLemmas.{insert-of_view}
use Rattle.tcl_host.proofs.memory.channels.Channels.insert.Goals as goal

pub returns-clause-put : goal.returns-clause-put
returns-clause-put c = insert-of_view _ c.self.inside.entries c.insert.new.self _ _ c.self.view_is c.in_ok-insert.ensures.updates
