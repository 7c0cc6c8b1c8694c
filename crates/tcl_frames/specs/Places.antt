-- The frames of a chain, and where the links in them lead.
use Rattle.std.specs.Prelude.{ℕ, zero, suc, pred, ◌+◌, Bool, true, false, ◌&&◌, ◌==◌, List, [], ◌∷◌}
use Rattle.std.specs.Prelude.{length, slice_get, Option, Some, None}
use Rattle.std.specs.Str.{bytes_eq}
use Rattle.std.specs.Map.{lookup}
use Rattle.tcl_frames.specs.Names.{Text, Name}
use Rattle.tcl_frames.specs.Variables.{Variables, Frame, Part, merge, part_of}
use Rattle.tcl_frames.specs.declared.variable.LinkTarget.{LinkTarget}
use Rattle.tcl_frames.specs.declared.variable.Variable.{Variable}
use Rattle.tcl_frames.specs.declared.variable.Variable.TheVariants.{Scalar, Array, Link}

-- the frames of a chain, level 0 first
abbrev pub Levels : Type 0
Levels = List Frame

-- the level that runs: the last
abbrev pub current : Levels → ℕ
current fs = pred (length fs)

abbrev pub bound_in : Option Frame → Text → Option Variable
bound_in None x = None
bound_in (Some f) x = lookup (bytes_eq x) f.variables

-- what a name stands for at a level
unfoldable pub bound : Levels → ℕ → Text → Option Variable
bound fs n x = bound_in (slice_get fs n) x

-- Where a name stands: a level, a name there, and the part that is meant.
pub record Spot : Type 0 where
  pub level : ℕ
  pub name : Text
  pub part : Part

abbrev pub level_of : Bool → ℕ → ℕ
level_of true n = 0
level_of false n = n

-- what a name means where it is written at a level
abbrev pub spot_of : ℕ → Name → Spot
spot_of n x = record { level = level_of x.is_global n; name = x.base; part = part_of x.key }

-- a part of what is at a place
abbrev pub under : LinkTarget → Part → Spot
under q p = record { level = q.level; name = q.name; part = merge (part_of q.key) p }

abbrev pub through : Option Variable → Part → Option Spot
through None part = None
through (Some (Scalar t)) part = None
through (Some (Array es)) part = None
through (Some (Link q)) part = Some (under q part)

-- what the link at a spot leads to
unfoldable pub next : Levels → Spot → Option Spot
next fs p = through (bound fs p.level p.name) p.part

abbrev pub onward : {A : Type 0} → Option A → A → (A → A) → A
onward None p f = p
onward (Some q) p f = f q

-- where at most so many steps lead
unfoldable pub walk : {A : Type 0} → ℕ → (A → Option A) → A → A
walk zero f p = p
walk (suc n) f p = onward (f p) p (walk n f)

abbrev pub plus_link : Variable → ℕ → ℕ
plus_link (Scalar t) n = n
plus_link (Array es) n = n
plus_link (Link q) n = suc n

-- how many links there are
unfoldable pub links_in : Variables → ℕ
links_in [] = 0
links_in (e ∷ es) = plus_link e.1 (links_in es)

unfoldable pub links : Levels → ℕ
links [] = 0
links (f ∷ fs) = links_in f.variables + links fs

-- where the links from a spot end: there are no more steps than links
unfoldable pub end_of : Levels → Spot → Spot
end_of fs p = walk (links fs) (next fs) p

-- whether a spot is of a name at a level
abbrev pub is_at : ℕ → Text → Spot → Bool
is_at n x p = (p.level == n) && bytes_eq x p.name
