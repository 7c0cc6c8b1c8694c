-- The elements of the array that a name is, each by its key.
use Rattle.std.specs.Prelude.{Result}
use Rattle.tcl_frames.specs.Names.{Text}
use Rattle.tcl_frames.specs.VariableArrays.{element_name}
use Rattle.tcl_frames.specs.Variables.Part.{element}
use Rattle.tcl_frames.specs.declared.frame.Change.{Change}
use Rattle.tcl_frames.specs.declared.frame.Change.TheVariants.{Assign, Unset}
use Rattle.tcl_frames.specs.declared.fault.FrameFault.{FrameFault}
use Rattle.tcl_frames.specs.Places.{Levels}
use Rattle.tcl_frames.specs.Chain.{Chain, at_name, with_frames}
use Rattle.tcl_frames.specs.Changes.{change_levels}
use Rattle.tcl_frames.specs.Reached.{over}

-- the frames after the element with this key, of what the name is, is changed
abbrev pub change_key : Change → Levels → Text → Text → Result Levels FrameFault
change_key c fs x k = at_name fs x (λ p. change_levels c fs (over p (element k)) (element_name x k))

abbrev pub after_set_key : Chain → Text → Text → Text → Result Chain FrameFault
after_set_key c x k t = with_frames c (change_key (Assign t) c.frames x k)

abbrev pub after_unset_key : Chain → Text → Text → Result Chain FrameFault
after_unset_key c x k = with_frames c (change_key Unset c.frames x k)
