-- What a change of one name does to its frame.
use Rattle.std.specs.Prelude.{Option, Some, None, Result, Ok, Err}
use Rattle.std.specs.Map.{lookup, remove_entry}
use Rattle.std.specs.Str.{bytes_eq}
use Rattle.indexmap.specs.IndexMap.{insert_entry}
use Rattle.tcl_frames.specs.Names.{Text}
use Rattle.tcl_frames.specs.Variables.{Frame, Part}
use Rattle.tcl_frames.specs.Access.{assigned, left_of, elements_of}
use Rattle.tcl_frames.specs.VariableArrays.{Elements, extended, unmatched}
use Rattle.tcl_frames.specs.declared.frame.Change.{Change}
use Rattle.tcl_frames.specs.declared.frame.Change.TheVariants.{Assign, SetElements, Unset}
use Rattle.tcl_frames.specs.declared.frame.Change.TheVariants.{UnsetElements}
use Rattle.tcl_frames.specs.declared.variable.Variable.{Variable}
use Rattle.tcl_frames.specs.declared.variable.Variable.TheVariants.{Array}
use Rattle.tcl_frames.specs.declared.fault.FrameFault.{FrameFault}

abbrev pub with_variable : Frame → Text → Variable → Frame
with_variable f x v = record { words = f.words; variables = insert_entry bytes_eq f.variables x v }

abbrev pub without_variable : Frame → Text → Frame
without_variable f x = record { words = f.words; variables = remove_entry (bytes_eq x) f.variables }

-- the frame after the name stands for another variable
abbrev pub rebound : Frame → Text → Result Variable FrameFault → Result Frame FrameFault
rebound f x (Ok v) = Ok (with_variable f x v)
rebound f x (Err e) = Err e

-- the frame after the name stands for what is left
abbrev pub unbound : Frame → Text → Result (Option Variable) FrameFault → Result Frame FrameFault
unbound f x (Ok None) = Ok (without_variable f x)
unbound f x (Ok (Some v)) = Ok (with_variable f x v)
unbound f x (Err e) = Err e

-- the frame after the elements that a pattern takes of what a name stands for are unset, or the
-- array itself where there is no pattern; what is no array stays
abbrev pub emptied : Frame → Text → Option Elements → Option Text → Frame
emptied f x None g = f
emptied f x (Some es) None = without_variable f x
emptied f x (Some es) (Some g) = with_variable f x (Array (unmatched g es))

-- the frame after a part of what a name stands for is changed
abbrev pub change_frame : Change → Frame → Text → Part → Text → Result Frame FrameFault
change_frame (Assign t) f b r x = rebound f b (assigned r (lookup (bytes_eq b) f.variables) t x)
change_frame (SetElements ps) f b r x = rebound f b
    (extended r (lookup (bytes_eq b) f.variables) ps.items x)
change_frame Unset f b r x = unbound f b (left_of r (lookup (bytes_eq b) f.variables) x)
change_frame (UnsetElements g) f b r x =
    Ok (emptied f b (elements_of r (lookup (bytes_eq b) f.variables)) g)
