-- What a change of one name does to the frames.
use Rattle.std.specs.Prelude.{◌≡◌, Result, Ok, None}
use Rattle.tcl_frames.specs.Names.{Text}
use Rattle.tcl_frames.specs.Places.{Levels, Spot, bound}
use Rattle.tcl_frames.specs.Reached.{link_of}
use Rattle.tcl_frames.specs.Chain.{at_name, bound_to, left_at}
use Rattle.tcl_frames.specs.Arrays.{emptied_at}
use Rattle.tcl_frames.specs.Access.{assigned, left_of, elements_of}
use Rattle.tcl_frames.specs.VariableArrays.{extended}
use Rattle.tcl_frames.specs.declared.frame.Change.{Change}
use Rattle.tcl_frames.specs.declared.frame.Change.TheVariants.{Assign, SetElements, Unset}
use Rattle.tcl_frames.specs.declared.frame.Change.TheVariants.{UnsetElements}
use Rattle.tcl_frames.specs.declared.fault.FrameFault.{FrameFault}

-- the frames after what a name stands for at a spot is changed
abbrev pub change_levels : Change → Levels → Spot → Text → Result Levels FrameFault
change_levels (Assign t) fs p x = bound_to fs p (assigned p.part (bound fs p.level p.name) t x)
change_levels (SetElements ps) fs p x = bound_to fs p
    (extended p.part (bound fs p.level p.name) ps.items x)
change_levels Unset fs p x = left_at fs p (left_of p.part (bound fs p.level p.name) x)
change_levels (UnsetElements g) fs p x =
    Ok (emptied_at fs p (elements_of p.part (bound fs p.level p.name)) g)

-- the frames after a written name is changed
abbrev pub change_named : Change → Levels → Text → Result Levels FrameFault
change_named c fs x = at_name fs x (λ p. change_levels c fs p x)

-- the name at a spot is no link, and the frames are as after a change of what it stands for
abbrev pub IsChangedThere : Change → Levels → Spot → Text → Levels → Type 0
IsChangedThere c fs p x gs = (link_of (bound fs p.level p.name) ≡ None) ×
    (change_levels c fs p x ≡ Ok gs)
