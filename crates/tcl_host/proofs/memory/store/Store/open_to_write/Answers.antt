use Rattle.tcl_host.proofs.StoreLemmas.{opened_there, begun_anew}
use Rattle.tcl_host.proofs.memory.store.Store.open_to_write.Goals as goal

pub clear-requires : goal.clear-requires
clear-requires c = opened_there c.args.self.now c.open_to_append.new.self c.args.name.now c.in_ok-channel.ensures.opened

pub returns-clause-opened : goal.returns-clause-opened
returns-clause-opened c = begun_anew c.args.self.now c.open_to_append.new.self c.args.name.now _ c.in_ok-channel.ensures.opened c.clear.ensures
