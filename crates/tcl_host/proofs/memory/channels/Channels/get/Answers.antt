use Rattle.std.proofs.Common.{◌∙◌}
use Rattle.tcl_host.proofs.NameLemmas.{get-of_view}
use Rattle.tcl_host.proofs.memory.channels.Channels.get.Goals as goal

pub returns : goal.returns
returns c = c.get.ensures.value ∙ get-of_view c.self.inside.entries _ c.args.name.now c.self.view_is
