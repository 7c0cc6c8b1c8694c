-- What a set of an element does where it is told by the array's name and the key.
use Rattle.std.specs.Prelude.{◌≡◌, Ok, Some, None}
use Rattle.std.specs.Map.{lookup}
use Rattle.std.specs.Str.{bytes_eq}
use Rattle.tcl_frames.specs.Names.{Text}
use Rattle.tcl_frames.specs.Variables.{Frame}
use Rattle.tcl_frames.specs.Variables.Part.{element}
use Rattle.tcl_frames.specs.Access.{assigned}
use Rattle.tcl_frames.specs.Reached.{link_of}
use Rattle.tcl_frames.specs.Rebinding.{rebound}
use Rattle.tcl_frames.specs.declared.variable.Variable.{Variable}

-- the variable is no link, and is another one after its element with the key is set, by whatever
-- name the element is told
abbrev pub PutsElement : Variable → Text → Text → Variable → Type 0
PutsElement v k t w = (link_of (Some v) ≡ None) ×
    ((name : Text) → assigned (element k) (Some v) t name ≡ Ok w)

-- the same of what a name stands for in a frame
abbrev pub PutsElementOf : Frame → Text → Text → Text → Frame → Type 0
PutsElementOf f b k t g = (link_of (lookup (bytes_eq b) f.variables) ≡ None) ×
    ((name : Text) →
    rebound f b (assigned (element k) (lookup (bytes_eq b) f.variables) t name) ≡ Ok g)
