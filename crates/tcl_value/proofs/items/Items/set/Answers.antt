use Rattle.std.specs.Prelude.{slice_set}
use Rattle.tcl_value.specs.Texts.{element_text}
use Rattle.tcl_value.proofs.Removed.{light_within_at, heavy_past}
use Rattle.tcl_value.proofs.items.Items.set.Goals as goal

pub returns-clause-within : goal.returns-clause-within
returns-clause-within c = light_within_at c.set_light.result c.set_light.new.self c.set_light.ensures.light

pub returns-clause-refused : goal.returns-clause-refused
returns-clause-refused c = heavy_past (slice_set c.args.self.now c.args.index (element_text c.args.element)) c.set_light.ensures.refused
