use Rattle.tcl_value.specs.Texts.{flat, element_text}
use Rattle.tcl_value.specs.Dicts.{put}
use Rattle.tcl_value.proofs.Removed.{light_within_at, heavy_past}
use Rattle.tcl_value.proofs.entries.Entries.set.Goals as goal

pub returns-clause-within : goal.returns-clause-within
returns-clause-within c = light_within_at c.put.result (flat c.put.new.self) c.put.ensures.light

pub returns-clause-refused : goal.returns-clause-refused
returns-clause-refused c = heavy_past (flat (put c.args.self.now c.args.key (element_text c.args.value))) c.put.ensures.refused
