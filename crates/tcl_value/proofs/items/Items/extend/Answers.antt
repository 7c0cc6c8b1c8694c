use Rattle.std.proofs.Common.{◌++◌}
use Rattle.tcl_value.specs.Texts.{texts}
use Rattle.tcl_value.proofs.Removed.{light_within_at, heavy_past}
use Rattle.tcl_value.proofs.items.Items.extend.Goals as goal

pub returns-clause-within : goal.returns-clause-within
returns-clause-within c = light_within_at c.extend_light.result c.extend_light.new.self c.extend_light.ensures.light

pub returns-clause-refused : goal.returns-clause-refused
returns-clause-refused c = heavy_past (c.args.self.now ++ texts c.args.elements.items) c.extend_light.ensures.refused
