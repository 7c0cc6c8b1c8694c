use Rattle.std.proofs.Common.{◌∙◌, ap, is_some}
use Rattle.tcl_host.proofs.NameLemmas.{get-of_view, remove-of_view, on_true_of}
use Rattle.tcl_host.proofs.memory.channels.Channels.remove.Goals as goal

pub returns-clause-there : goal.returns-clause-there
returns-clause-there c =
    c.is_some.ensures ∙ ap is_some (c.swap_remove.ensures.value ∙ get-of_view c.self.inside.entries _ c.args.name.now c.self.view_is)

pub returns-clause-taken : goal.returns-clause-taken
returns-clause-taken c =
    on_true_of c.is_some.result (remove-of_view _ c.self.inside.entries c.swap_remove.new.self _ c.self.view_is c.swap_remove.ensures.updates)
