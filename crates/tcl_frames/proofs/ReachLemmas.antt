-- How the code follows links.
use Rattle.std.proofs.Common.{◌≡◌, ℕ, ◌<◌, true, length, get_or, ltb, slice_get, Option, Some, None, refl, sym, ◌∙◌, ap, arith}
use Rattle.std.proofs.lemmas.Bool.Decides.{nat_tests}
use Rattle.std.proofs.lemmas.Option.{slice_get_read}
use Rattle.std.specs.Option.{option_map}
use Rattle.std.specs.Map.{lookup}
use Rattle.std.specs.Str.{bytes_eq}
use Rattle.tcl_frames.specs.Names.{Text}
use Rattle.tcl_frames.specs.Variables.{Frame, Part}
use Rattle.tcl_frames.specs.Places.{Levels, Spot, bound, bound_in, through, under, next, links, end_of}
use Rattle.tcl_frames.specs.Reached.{link_of}
use Rattle.tcl_frames.specs.Sound.{AreFit}
use Rattle.tcl_frames.specs.declared.variable.LinkTarget.{LinkTarget}
use Rattle.tcl_frames.specs.declared.variable.Variable.{Variable}
use Rattle.tcl_frames.specs.declared.variable.Variable.TheVariants.{Scalar, Array, Link}
use Rattle.tcl_frames.proofs.SoundLemmas.{links_end, end_onward, end_here}
use Rattle.tcl_frames.proofs.WalkLemmas.{hops, hops_fall}

below : (i n : ℕ) → true ≡ ltb i n → i < n
below i n h = grind (arith, nat_tests)

-- a frame that is there, and its variables
pub get_there : (fs : Levels) (i : ℕ) (f : Frame) → true ≡ ltb i (length fs) → f ≡ get_or fs i f → slice_get fs i ≡ Some f
get_there fs i f h e = slice_get_read fs (length fs) i f refl (below i (length fs) h) e

pub bound_there : (fs : Levels) (i : ℕ) (x : Text) (f : Frame) → slice_get fs i ≡ Some f → lookup (bytes_eq x) f.variables ≡ bound fs i x
unfolding bound
bound_there fs i x f at = sym (ap (λ o. bound_in o x) at)

pub bound_nowhere : (fs : Levels) (i : ℕ) (x : Text) → slice_get fs i ≡ None → None ≡ bound fs i x
unfolding bound
bound_nowhere fs i x at = sym (ap (λ o. bound_in o x) at)

through_link : (o : Option Variable) (part : Part) → through o part ≡ option_map (λ q. under q part) (link_of o)
through_link None part = refl
through_link (Some (Scalar t)) part = refl
through_link (Some (Array es)) part = refl
through_link (Some (Link q)) part = refl

pub next_link : (fs : Levels) (p : Spot) → next fs p ≡ option_map (λ q. under q p.part) (link_of (bound fs p.level p.name))
unfolding next
next_link fs p = through_link (bound fs p.level p.name) p.part

-- one link onward: the same end, and fewer steps
pub follow_some : (fs : Levels) (p : Spot) (q : LinkTarget) → link_of (bound fs p.level p.name) ≡ Some q → next fs p ≡ Some (under q p.part)
follow_some fs p q e = next_link fs p ∙ ap (option_map (λ r. under r p.part)) e

pub follow_none : (fs : Levels) (p : Spot) → link_of (bound fs p.level p.name) ≡ None → next fs p ≡ None
follow_none fs p e = next_link fs p ∙ ap (option_map (λ r. under r p.part)) e

pub follow_falls : (fs : Levels) → AreFit 0 fs → (p : Spot) (q : LinkTarget) → link_of (bound fs p.level p.name) ≡ Some q → hops (links fs) (next fs) (under q p.part) < hops (links fs) (next fs) p
follow_falls fs fit p q e = hops_fall (links fs) (next fs) p (under q p.part) (follow_some fs p q e) (links_end fs fit p)

pub follow_end : (fs : Levels) → AreFit 0 fs → (p : Spot) (q : LinkTarget) → link_of (bound fs p.level p.name) ≡ Some q → end_of fs p ≡ end_of fs (under q p.part)
follow_end fs fit p q e = end_onward fs fit p (under q p.part) (follow_some fs p q e)

pub follow_here : (fs : Levels) (p : Spot) → link_of (bound fs p.level p.name) ≡ None → end_of fs p ≡ p
follow_here fs p e = end_here fs p (follow_none fs p e)
