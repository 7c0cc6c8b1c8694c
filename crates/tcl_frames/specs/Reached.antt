-- Where the code came to.
use Rattle.std.specs.Prelude.{◌≡◌, ℕ, Bool, true, false, Option, Some, None}
use Rattle.tcl_frames.specs.declared.variable.LinkTarget.{LinkTarget}
use Rattle.tcl_frames.specs.declared.variable.Variable.{Variable}
use Rattle.tcl_frames.specs.declared.variable.Variable.TheVariants.{Scalar, Array, Link}
use Rattle.tcl_frames.specs.Names.{Text}
use Rattle.tcl_frames.specs.Places.{Spot, Levels, bound}
use Rattle.tcl_frames.specs.Variables.{Part, merge}
use Rattle.tcl_frames.specs.Variables.Part.{whole}
use Rattle.tcl_frames.specs.Chain.{place_named}
use Rattle.tcl_frames.specs.Parts.{seen_part}
use Rattle.tcl_frames.specs.declared.steps.Reached.{Reached}

abbrev pub reached : Reached → Spot
reached r = record { level = r.level; name = r.name.now; part = seen_part r.part }

-- the place that a variable links to
abbrev pub link_of : Option Variable → Option LinkTarget
link_of None = None
link_of (Some (Scalar t)) = None
link_of (Some (Array es)) = None
link_of (Some (Link q)) = Some q

-- whether a name may be made a link
abbrev pub may_link : Option Variable → Bool
may_link None = true
may_link (Some (Scalar t)) = false
may_link (Some (Array es)) = false
may_link (Some (Link q)) = true

-- a name at a level
abbrev pub start : ℕ → Text → Spot
start n x = record { level = n; name = x; part = whole }

-- a part of what is at a spot
abbrev pub over : Spot → Part → Spot
over p r = record { level = p.level; name = p.name; part = merge p.part r }

-- what is bound where a name stands
abbrev pub bound_where : Levels → Spot → Option Variable
bound_where fs p = bound fs p.level p.name

-- this variable stands where the links from a written name end, and this part of it is meant
abbrev pub Stands : Levels → Text → Option Variable → Part → Type 0
Stands fs x o r = (p : Spot) × (place_named fs x ≡ Some p) × (o ≡ bound_where fs p) × (r ≡ p.part)
