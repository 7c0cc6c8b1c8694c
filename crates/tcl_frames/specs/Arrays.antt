-- What calls on whole arrays do to a chain, and what they answer.
use Rattle.std.specs.Prelude.{Bool, true, false, [], ◌∷◌, Option, Some, None, is_some, Result, Ok}
use Rattle.std.specs.Prelude.{Err}
use Rattle.tcl_frames.specs.Names.{Text}
use Rattle.tcl_frames.specs.Access.{elements_of}
use Rattle.tcl_frames.specs.VariableArrays.{Elements, extended, unmatched}
use Rattle.tcl_frames.specs.declared.variable.Variable.TheVariants.{Array}
use Rattle.tcl_frames.specs.declared.fault.FrameFault.{FrameFault}
use Rattle.tcl_frames.specs.Places.{Levels, Spot, bound}
use Rattle.tcl_frames.specs.Chain.{Chain, at_name, bind, unbind, bound_to, with_frames}

-- ## Changes

-- the frames after elements of the array that the name is are set, from the left
unfoldable pub elements_set : Levels → Text → Elements → Result Levels FrameFault
elements_set fs x ps = at_name fs x
    (λ p. bound_to fs p (extended p.part (bound fs p.level p.name) ps x))

-- the frames without the elements of an array that a pattern takes, or without the array where
-- there is no pattern; what is no array stays
abbrev pub emptied_at : Levels → Spot → Option Elements → Option Text → Levels
emptied_at fs p None g = fs
emptied_at fs p (Some es) None = unbind fs p.level p.name
emptied_at fs p (Some es) (Some g) = bind fs p.level p.name (Array (unmatched g es))

-- the same of what the name is
unfoldable pub elements_unset : Levels → Text → Option Text → Result Levels FrameFault
elements_unset fs x g = at_name fs x
    (λ p. Ok (emptied_at fs p (elements_of p.part (bound fs p.level p.name)) g))

abbrev pub after_set_elements : Chain → Text → Elements → Result Chain FrameFault
after_set_elements c x ps = with_frames c (elements_set c.frames x ps)

abbrev pub after_unset_elements : Chain → Text → Option Text → Result Chain FrameFault
after_unset_elements c x g = with_frames c (elements_unset c.frames x g)

-- ## Answers

-- what is answered of the elements of an array; what is no array has none
abbrev pub of_elements : {A : Type 0} → (Elements → A) → Result (Option Elements) FrameFault →
    Result A FrameFault
of_elements f (Ok None) = Ok (f [])
of_elements f (Ok (Some es)) = Ok (f es)
of_elements f (Err e) = Err e

-- whether there is an array
abbrev pub is_found : Result (Option Elements) FrameFault → Result Bool FrameFault
is_found (Ok o) = Ok (is_some o)
is_found (Err e) = Err e

-- the element, if it is wanted
abbrev pub element_if : Bool → Text × Text → Elements
element_if true e = e ∷ []
element_if false e = []
