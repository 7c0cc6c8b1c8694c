-- What the names of a frame stand for.
use Rattle.std.specs.Prelude.{List, Option, Some, None}
use Rattle.tcl_frames.specs.Names.{Text}
use Rattle.tcl_frames.specs.declared.variable.Variable.{Variable}

-- what names stand for, in the order of insertion
abbrev pub Variables : Type 0
Variables = List (Text × Variable)

-- A frame: the words of its call, and its variables.
pub record Frame : Type 0 where
  pub words : List Text
  pub variables : Variables

-- Which part of a variable is meant: all of it, an element, or an element of an element, of which
-- there is none.
pub data Part : Type 0 where
  whole : Part
  element : Text → Part
  nested : Part

-- a part of a part
abbrev pub merge : Part → Part → Part
merge whole p = p
merge (element k) whole = element k
merge (element k) (element j) = nested
merge (element k) nested = nested
merge nested p = nested

abbrev pub part_of : Option Text → Part
part_of None = whole
part_of (Some k) = element k
