use Rattle.std.proofs.Common.{◌++◌, ◌∷◌, []}
use Rattle.tcl_value.specs.Texts.{element_text}
use Rattle.tcl_value.proofs.Removed.{light_within_at, heavy_past}
use Rattle.tcl_value.proofs.items.Items.push.Goals as goal

pub returns-clause-within : goal.returns-clause-within
returns-clause-within c = light_within_at c.push_light.result c.push_light.new.self c.push_light.ensures.light

pub returns-clause-refused : goal.returns-clause-refused
returns-clause-refused c = heavy_past (c.args.self.now ++ element_text c.args.element ∷ []) c.push_light.ensures.refused
