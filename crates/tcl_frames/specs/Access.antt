-- What is done to a part of a variable.
use Rattle.std.specs.Prelude.{Bool, true, false, List, [], ◌∷◌, Option, Some, None, is_some, Result}
use Rattle.std.specs.Prelude.{Ok, Err}
use Rattle.std.specs.Str.{bytes_eq}
use Rattle.std.specs.Map.{lookup, remove_entry}
use Rattle.indexmap.specs.IndexMap.{insert_entry}
use Rattle.tcl_frames.specs.Names.{Text}
use Rattle.tcl_frames.specs.Variables.{Part}
use Rattle.tcl_frames.specs.Variables.Part.{whole, element, nested}
use Rattle.tcl_frames.specs.declared.variable.Variable.{Variable}
use Rattle.tcl_frames.specs.declared.variable.Variable.TheVariants.{Scalar, Array, Link}
use Rattle.tcl_frames.specs.declared.fault.Verb.TheVariants.{Read, Set, Unset}
use Rattle.tcl_frames.specs.declared.fault.FrameFault.{FrameFault}
use Rattle.tcl_frames.specs.declared.fault.FrameFault.TheVariants.{NoVariable, IsArray, NotArray}
use Rattle.tcl_frames.specs.declared.fault.FrameFault.TheVariants.{NoElement}

abbrev pub read_element : Option Text → Text → Result Text FrameFault
read_element None x = Err (NoElement Read x)
read_element (Some t) x = Ok t

abbrev pub value_of : Part → Option Variable → Text → Result Text FrameFault
value_of whole None x = Err (NoVariable Read x)
value_of whole (Some (Scalar t)) x = Ok t
value_of whole (Some (Array es)) x = Err (IsArray Read x)
value_of whole (Some (Link q)) x = Err (NotArray Read x)
value_of (element k) None x = Err (NoVariable Read x)
value_of (element k) (Some (Scalar t)) x = Err (NotArray Read x)
value_of (element k) (Some (Array es)) x = read_element (lookup (bytes_eq k) es) x
value_of (element k) (Some (Link q)) x = Err (NotArray Read x)
value_of nested v x = Err (NotArray Read x)

-- whether a name is a link
abbrev pub is_linked : Option Variable → Bool
is_linked None = false
is_linked (Some (Scalar t)) = false
is_linked (Some (Array es)) = false
is_linked (Some (Link q)) = true

abbrev pub is_held : Part → Option Variable → Bool
is_held whole None = false
is_held whole (Some (Scalar t)) = true
is_held whole (Some (Array es)) = true
is_held whole (Some (Link q)) = false
is_held (element k) None = false
is_held (element k) (Some (Scalar t)) = false
is_held (element k) (Some (Array es)) = is_some (lookup (bytes_eq k) es)
is_held (element k) (Some (Link q)) = false
is_held nested v = false

abbrev pub elements_of : Part → Option Variable → Option (List (Text × Text))
elements_of whole None = None
elements_of whole (Some (Scalar t)) = None
elements_of whole (Some (Array es)) = Some es
elements_of whole (Some (Link q)) = None
elements_of (element k) v = None
elements_of nested v = None

abbrev pub assigned : Part → Option Variable → Text → Text → Result Variable FrameFault
assigned whole None t x = Ok (Scalar t)
assigned whole (Some (Scalar s)) t x = Ok (Scalar t)
assigned whole (Some (Array es)) t x = Err (IsArray Set x)
assigned whole (Some (Link q)) t x = Err (NotArray Set x)
assigned (element k) None t x = Ok (Array ((k, t) ∷ []))
assigned (element k) (Some (Scalar s)) t x = Err (NotArray Set x)
assigned (element k) (Some (Array es)) t x = Ok (Array (insert_entry bytes_eq es k t))
assigned (element k) (Some (Link q)) t x = Err (NotArray Set x)
assigned nested v t x = Err (NotArray Set x)

abbrev pub without_element : Option Text → List (Text × Text) → Text → Text →
    Result (Option Variable) FrameFault
without_element None es k x = Err (NoElement Unset x)
without_element (Some t) es k x = Ok (Some (Array (remove_entry (bytes_eq k) es)))

-- what is left of a variable, where something is
abbrev pub left_of : Part → Option Variable → Text → Result (Option Variable) FrameFault
left_of whole None x = Err (NoVariable Unset x)
left_of whole (Some (Scalar t)) x = Ok None
left_of whole (Some (Array es)) x = Ok None
left_of whole (Some (Link q)) x = Err (NotArray Unset x)
left_of (element k) None x = Err (NoVariable Unset x)
left_of (element k) (Some (Scalar t)) x = Err (NotArray Unset x)
left_of (element k) (Some (Array es)) x = without_element (lookup (bytes_eq k) es) es k x
left_of (element k) (Some (Link q)) x = Err (NotArray Unset x)
left_of nested v x = Err (NotArray Unset x)
