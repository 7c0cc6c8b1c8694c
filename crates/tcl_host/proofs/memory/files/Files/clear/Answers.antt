use Rattle.std.proofs.Common.{ap, ◌∙◌}
use Rattle.std.specs.FinMap.{insert}
use Rattle.tcl_host.proofs.NameLemmas.{get-of_view, insert-of_view, not_none, is_some_of}
use Rattle.tcl_host.proofs.memory.files.Files.clear.Goals as goal

pub unreachable-requires : goal.unreachable-requires
unreachable-requires c =
    let is = get-of_view c.self.inside.entries _ c.args.name.now c.self.view_is in
    not_none _ c.requires (c.in_default.ensures.value ∙ is)

pub returns : goal.returns
returns c =
    let is = get-of_view c.self.inside.entries _ c.args.name.now c.self.view_is in
    let writes = (c.get_mut.follows.holds c.clear.new.self).3 (is_some_of _ _ is c.requires) in
    insert-of_view _ c.self.inside.entries (c.get_mut.follows.lender c.clear.new.self) _ _ c.self.view_is writes
    ∙ ap (insert c.args.self.now c.args.name.now) c.clear.ensures
