use Rattle.tcl_host.proofs.NameLemmas.{remove-of_view}
use Rattle.tcl_host.proofs.memory.files.Files.remove.Goals as goal

pub returns : goal.returns
returns c = remove-of_view _ c.self.inside.entries c.swap_remove.new.self _ c.self.view_is c.swap_remove.ensures.updates
