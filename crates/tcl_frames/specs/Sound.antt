-- What holds of every chain.
use Rattle.std.specs.Prelude.{ℕ, suc, ◌+◌, ◌≡◌, ◌≤◌, ◌==◌, Bool, true, false, List, [], ◌∷◌, length}
use Rattle.std.specs.Prelude.{Option, Some, None}
use Rattle.std.specs.Str.{bytes_eq}
use Rattle.std.specs.Map.{lookup, keys_of}
use Rattle.std.specs.List.{IsDistinct}
use Rattle.tcl_frames.specs.Names.{Text}
use Rattle.tcl_frames.specs.Variables.{Frame, Variables}
use Rattle.tcl_frames.specs.Places.{Levels, walk, links_in}
use Rattle.tcl_frames.specs.Chain.{Aside, Chain}
use Rattle.tcl_frames.specs.declared.variable.Variable.{Variable}
use Rattle.tcl_frames.specs.declared.variable.Variable.TheVariants.{Scalar, Array, Link}

abbrev pub IsWithin : ℕ → Variable → Type 0
IsWithin n (Scalar t) = Unit {0}
IsWithin n (Array es) = Unit {0}
IsWithin n (Link q) = q.level ≤ n

-- each link's level is at most that of its frame
unfoldable pub AreWithin : ℕ → Variables → Type 0
AreWithin n [] = Unit {0}
AreWithin n (e ∷ es) = IsWithin n e.1 × AreWithin n es

-- the walk along the links of one level: at a name of the level, or off the level
abbrev pub hop_to : Bool → Text → Option Text
hop_to true x = Some x
hop_to false x = None

abbrev pub hop_by : ℕ → Option Variable → Option (Option Text)
hop_by n None = None
hop_by n (Some (Scalar t)) = None
hop_by n (Some (Array es)) = None
hop_by n (Some (Link q)) = Some (hop_to (q.level == n) q.name)

abbrev pub hop : ℕ → Variables → Option Text → Option (Option Text)
hop n es None = None
hop n es (Some x) = hop_by n (lookup (bytes_eq x) es)

-- a walk of at most so many steps comes to its end
abbrev pub Ends : {A : Type 0} → ℕ → (A → Option A) → A → Type 0
Ends k f a = f (walk k f a) ≡ None

-- What fits a level: names are unique, links lead no higher, and as long as they stay there they
-- end, with no link passed twice.
pub record IsFit (n : ℕ) (f : Frame) : Type 0 where
  pub unique : IsDistinct bytes_eq (keys_of f.variables)
  pub within : AreWithin n f.variables
  pub end : (x : Text) → Ends (links_in f.variables) (hop n f.variables) (Some x)

-- the frames fit the levels from n on
unfoldable pub AreFit : ℕ → Levels → Type 0
AreFit n [] = Unit {0}
AreFit n (f ∷ fs) = IsFit n f × AreFit (suc n) fs

-- what is set aside fits in where it stood, below it there are as many frames as then
unfoldable pub AreAside : ℕ → List Aside → Type 0
AreAside count [] = 1 ≤ count
AreAside count (a ∷ rest) = (suc a.above ≤ count) × AreFit (suc a.above) a.frames ×
    AreAside (suc a.above + length a.frames) rest

-- a chain's links end, and lead no higher than the frame that they stand in
pub record IsSound (c : Chain) : Type 0 where
  pub fit : AreFit 0 c.frames
  pub aside : AreAside (length c.frames) c.aside

-- the frames that are set aside fit in above their levels, where there is room for so many
unfoldable pub HasRoom : ℕ → List Aside → Type 0
HasRoom room [] = Unit {0}
HasRoom room (a ∷ rest) = (suc a.above + length a.frames ≤ room) × HasRoom room rest
