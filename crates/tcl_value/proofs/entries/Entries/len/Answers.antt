use Rattle.std.proofs.Common.{◌∙◌}
use Rattle.tcl_value.proofs.Entered.{entry_many}
use Rattle.tcl_value.proofs.entries.Entries.len.Goals as goal

pub returns : goal.returns
returns c = c.len.ensures ∙ c.self.inside.values.ok.0 ∙ entry_many c.self.inside.keys.keys c.self.inside.values.items c.args.self.now c.self.invariant.same c.self.view_is
