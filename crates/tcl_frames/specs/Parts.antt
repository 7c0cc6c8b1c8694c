-- A part as the code names it.
use Rattle.tcl_frames.specs.Variables as variables
use Rattle.tcl_frames.specs.Variables.Part.{whole, element, nested}
use Rattle.tcl_frames.specs.declared.access.Part.{Part}
use Rattle.tcl_frames.specs.declared.access.Part.TheVariants.{Whole, Element, Nested}

abbrev pub seen_part : Part → variables.Part
seen_part Whole = whole
seen_part (Element k) = element k.now
seen_part Nested = nested
