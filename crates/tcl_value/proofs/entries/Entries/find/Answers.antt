use Rattle.tcl_value.proofs.Entered.{find_is}
use Rattle.tcl_value.proofs.entries.Entries.find.Goals as goal

pub returns : goal.returns
returns c = find_is c.self.inside.keys.keys c.self.inside.values.items c.args.self.now c.args.key.now c.get_index_of.result c.self.invariant.same c.self.view_is c.get_index_of.ensures.index
