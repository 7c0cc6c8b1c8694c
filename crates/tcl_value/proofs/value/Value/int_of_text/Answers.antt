use Rattle.std.proofs.Common.{ap, ◌∙◌}
use Rattle.tcl_value.specs.Reading.{int_of}
use Rattle.tcl_value.proofs.Changed.{no_number}
use Rattle.tcl_value.proofs.value.Value.int_of_text.Goals as goal

pub returns-in-Empty-2 : goal.returns-in-Empty-2
returns-in-Empty-2 c = no_number c.self.inside.form c.args.style c.self.invariant c.in-Empty.is ∙ ap (int_of c.args.style) c.self.view_is

pub returns-in-Empty-3 : goal.returns-in-Empty-3
returns-in-Empty-3 c = no_number c.self.inside.form c.args.style c.self.invariant c.in-Empty.is ∙ ap (int_of c.args.style) c.self.view_is
