-- Where a change goes, as the code keeps it.
use Rattle.std.specs.Prelude.{Option, Some, None}
use Rattle.tcl_frames.specs.Places.{Spot}
use Rattle.tcl_frames.specs.Variables.{Part}
use Rattle.tcl_frames.specs.Variables.Part.{whole, element, nested}
use Rattle.tcl_frames.specs.Reached.{over}
use Rattle.tcl_frames.specs.Parts.{seen_part}
use Rattle.tcl_frames.specs.declared.steps.OwnedPart.{OwnedPart}
use Rattle.tcl_frames.specs.declared.steps.OwnedPart.TheVariants.{Whole, Element, Nested}
use Rattle.tcl_frames.specs.declared.steps.Target.{Target}
use Rattle.tcl_frames.specs.declared.steps.Ended.{Ended}

abbrev pub owned_part : OwnedPart → Part
owned_part Whole = whole
owned_part (Element k) = element k
owned_part Nested = nested

abbrev pub target_spot : Target → Spot
target_spot t = record { level = t.level; name = t.name; part = owned_part t.part }

-- the target; or, where there is none, the part of the name itself
abbrev pub target_or : Spot → Part → Option Target → Spot
target_or p r None = over p r
target_or p r (Some t) = target_spot t

abbrev pub ended : Ended → Spot
ended e = record { level = e.level; name = e.base.now; part = seen_part e.part }
