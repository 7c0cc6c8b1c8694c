-- What is done to whole arrays.
use Rattle.std.specs.Prelude.{Bool, true, false, not, List, [], ◌∷◌, ◌++◌, filter, Option, Some}
use Rattle.std.specs.Prelude.{None, Result, Ok, Err, codes}
use Rattle.std.specs.Str.{bytes_eq}
use Rattle.indexmap.specs.IndexMap.{insert_all}
use Rattle.tcl_glob.specs.Patterns.{is_match}
use Rattle.tcl_frames.specs.Names.{Text}
use Rattle.tcl_frames.specs.Variables.{Part}
use Rattle.tcl_frames.specs.Variables.Part.{whole, element, nested}
use Rattle.tcl_frames.specs.declared.variable.Variable.{Variable}
use Rattle.tcl_frames.specs.declared.variable.Variable.TheVariants.{Scalar, Array, Link}
use Rattle.tcl_frames.specs.declared.fault.Verb.TheVariants.{Set}
use Rattle.tcl_frames.specs.declared.fault.FrameFault.{FrameFault}
use Rattle.tcl_frames.specs.declared.fault.FrameFault.TheVariants.{NotArray}

-- the elements of an array, by their keys
abbrev pub Elements : Type 0
Elements = List (Text × Text)

-- how an element is told: `a(k)`
abbrev pub element_name : Text → Text → Text
element_name x k = x ++ codes "(" ++ k ++ codes ")"

-- what is told where elements can't be set: the first of them, or the name where there is none
abbrev pub told_first : Text → Elements → Text
told_first x [] = x
told_first x (e ∷ es) = element_name x e.0

-- what a variable is after these elements of it are set, from the left
abbrev pub extended : Part → Option Variable → Elements → Text → Result Variable FrameFault
extended whole None ps x = Ok (Array (insert_all bytes_eq [] ps))
extended whole (Some (Scalar s)) ps x = Err (NotArray Set (told_first x ps))
extended whole (Some (Array es)) ps x = Ok (Array (insert_all bytes_eq es ps))
extended whole (Some (Link q)) ps x = Err (NotArray Set (told_first x ps))
extended (element k) v ps x = Err (NotArray Set (told_first x ps))
extended nested v ps x = Err (NotArray Set (told_first x ps))

-- whether a pattern takes a key; where there is none, each is taken
abbrev pub is_taken : Option Text → Text → Bool
is_taken None k = true
is_taken (Some g) k = is_match false g k

-- the elements whose keys are taken, in their order
abbrev pub taken : Option Text → Elements → Elements
taken g es = filter (λ e. is_taken g e.0) es

-- the entries whose names a pattern doesn't match, in their order
abbrev pub unmatched : {V : Type 0} → Text → List (Text × V) → List (Text × V)
unmatched g es = filter (λ e. not (is_match false g e.0)) es

-- what is left of a variable without the elements whose keys a pattern matches
abbrev pub thinned : Text → Variable → Variable
thinned g (Scalar t) = Scalar t
thinned g (Array es) = Array (unmatched g es)
thinned g (Link q) = Link q
