use Rattle.tcl_value.proofs.Ends.{number_or_inner}
use Rattle.tcl_value.proofs.element.Element.ends_in_backslash.Goals as goal

pub returns-in-Number : goal.returns-in-Number
returns-in-Number c = number_or_inner c.args.self.now c.requires c.in-Number.is
