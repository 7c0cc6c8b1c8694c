use Rattle.std.proofs.Common.{sym, Ok}
use Rattle.tcl_value.proofs.Removed.{without_found_at, without_absent}
use Rattle.tcl_value.proofs.entries.Entries.remove_any.Goals as goal

pub returns-in_default-clause-removed : goal.returns-in_default-clause-removed
returns-in_default-clause-removed c = sym (without_absent c.args.self.now c.args.key.now c.in_default.ensures)

pub returns-in-Ok-clause-removed : goal.returns-in-Ok-clause-removed
returns-in-Ok-clause-removed c = without_found_at {U = Unit {0}} (Ok tt) c.args.self.now c.remove_at.new.self c.args.key.now c.in-Some.index c.in-Some.ensures c.in-Ok.ensures.removed
