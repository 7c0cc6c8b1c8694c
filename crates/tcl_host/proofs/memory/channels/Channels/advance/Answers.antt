use Rattle.std.proofs.Common.{◌∙◌, rules, ◌<◌, ◌+◌, ◌^◌}
use Rattle.tcl_host.specs.Channels.{advanced}
use Rattle.tcl_host.proofs.NameLemmas.{get-of_view, insert-of_view, not_none, is_some_of, for_some_at, if_some_at}
use Rattle.tcl_host.proofs.memory.channels.Channels.advance.Goals as goal

pub unreachable-requires : goal.unreachable-requires
unreachable-requires c =
    let is = get-of_view c.self.inside.entries _ c.args.name.now c.self.view_is in
    not_none _ c.requires.there (c.in_default.ensures.value ∙ is)

pub overflow_add-channel : goal.overflow_add-channel
overflow_add-channel c =
    let is = get-of_view c.self.inside.entries _ c.args.name.now c.self.view_is in
    let fits : c.in-Some.channel.now.place + c.args.count < 2 ^ 64 = for_some_at _ _ _ (c.in-Some.ensures.value ∙ is) c.requires.fits in
    search rules

pub returns : goal.returns
returns c =
    let is = get-of_view c.self.inside.entries _ c.args.name.now c.self.view_is in
    let moved = advanced c.in-Some.channel.now c.args.count c.args.ended in
    let writes = (c.get_mut.follows.holds moved).3 (is_some_of _ _ is c.requires.there) in
    if_some_at _ _ _ (c.in-Some.ensures.value ∙ is) (insert-of_view _ c.self.inside.entries (c.get_mut.follows.lender moved) _ _ c.self.view_is writes)
