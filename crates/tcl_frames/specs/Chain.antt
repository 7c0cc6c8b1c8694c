-- The chain of frames of an interpreter, and what each call on its variables does.
use Rattle.std.specs.Prelude.{ℕ, zero, suc, pred, ◌==◌, nat_le, nat_lt, Bool, true, false, List, []}
use Rattle.std.specs.Prelude.{◌∷◌, ◌++◌, length, take, drop, slice_get, Option, Some, None}
use Rattle.std.specs.Prelude.{if◌then◌else◌, Result, Ok, Err}
use Rattle.std.specs.Str.{bytes_eq}
use Rattle.std.specs.Map.{remove_entry}
use Rattle.indexmap.specs.IndexMap.{insert_entry}
use Rattle.tcl_frames.specs.Names.{Text, Name, name_of, is_plain}
use Rattle.tcl_frames.specs.Variables.{Frame, Part, Variables}
use Rattle.tcl_frames.specs.Access.{value_of, is_held, elements_of, assigned, left_of}
use Rattle.tcl_frames.specs.VariableArrays.{extended}
use Rattle.tcl_frames.specs.Places.{Spot, Levels, current, bound, spot_of, end_of, is_at}
use Rattle.tcl_frames.specs.Variables.Part.{whole, element, nested}
use Rattle.tcl_frames.specs.declared.variable.LinkTarget.{LinkTarget}
use Rattle.tcl_frames.specs.declared.variable.Variable.{Variable}
use Rattle.tcl_frames.specs.declared.variable.Variable.TheVariants.{Scalar, Array, Link}
use Rattle.tcl_frames.specs.declared.scope.Scope.{Scope}
use Rattle.tcl_frames.specs.declared.scope.Scope.TheVariants.{Visible, Global, Local}
use Rattle.tcl_frames.specs.declared.fault.Verb.TheVariants.{Read}
use Rattle.tcl_frames.specs.declared.fault.FrameFault.{FrameFault}
use Rattle.tcl_frames.specs.declared.fault.FrameFault.TheVariants.{NotArray, BadLevel, Exists}
use Rattle.tcl_frames.specs.declared.fault.FrameFault.TheVariants.{Itself, BadName}

-- Frames that were set aside: those that stood above a level.
pub record Aside : Type 0 where
  pub above : ℕ
  pub frames : Levels

-- The chain of frames, level 0 first, and the parts of chains that are set aside, latest first.
pub record Chain : Type 0 where
  pub frames : Levels
  pub aside : List Aside

-- a new interpreter's: one frame, with no words and no variables
abbrev pub fresh : Chain
fresh = record { frames = record { words = []; variables = [] } ∷ []; aside = [] }

-- ## A name

abbrev pub end_named : Levels → ℕ → Option Name → Option Spot
end_named fs n None = None
end_named fs n (Some x) = Some (end_of fs (spot_of n x))

-- where the links from a written name end
unfoldable pub place_named : Levels → Text → Option Spot
place_named fs x = end_named fs (current fs) (name_of x)

abbrev pub by_place : {A : Type 0} → Option Spot → Text → (Spot → Result A FrameFault) →
    Result A FrameFault
by_place None x f = Err (BadName x)
by_place (Some p) x f = f p

-- what is done there
abbrev pub at_name : {A : Type 0} → Levels → Text → (Spot → Result A FrameFault) →
    Result A FrameFault
at_name fs x f = by_place (place_named fs x) x f

-- ## Reading

-- what the name holds
unfoldable pub read : Levels → Text → Result Text FrameFault
read fs x = at_name fs x (λ p. value_of p.part (bound fs p.level p.name) x)

-- whether there is a value where a name stands
abbrev pub holds : Levels → Spot → Bool
holds fs p = is_held p.part (bound fs p.level p.name)

-- whether the name's place holds a value
unfoldable pub exists_at : Levels → Text → Result Bool FrameFault
exists_at fs x = at_name fs x (λ p. Ok (holds fs p))

-- ## Writing

abbrev pub on_level : Levels → ℕ → (Variables → Variables) → Levels
on_level [] n f = []
on_level (g ∷ fs) zero f = record { words = g.words; variables = f g.variables } ∷ fs
on_level (g ∷ fs) (suc n) f = g ∷ on_level fs n f

-- the name at the level stands for something else: where it was, or at the end
unfoldable pub bind : Levels → ℕ → Text → Variable → Levels
bind fs n x v = on_level fs n (λ es. insert_entry bytes_eq es x v)

-- the name at the level stands for nothing
unfoldable pub unbind : Levels → ℕ → Text → Levels
unbind fs n x = on_level fs n (remove_entry (bytes_eq x))

abbrev pub bound_to : Levels → Spot → Result Variable FrameFault → Result Levels FrameFault
bound_to fs p (Ok v) = Ok (bind fs p.level p.name v)
bound_to fs p (Err e) = Err e

-- the frames after the name is set to a text
unfoldable pub written : Levels → Text → Text → Result Levels FrameFault
written fs x t = at_name fs x (λ p. bound_to fs p (assigned p.part (bound fs p.level p.name) t x))

-- the frames after the name is made an array, where it isn't one yet
unfoldable pub made_array : Levels → Text → Result Levels FrameFault
made_array fs x = at_name fs x (λ p. bound_to fs p (extended p.part (bound fs p.level p.name) [] x))

abbrev pub left_at : Levels → Spot → Result (Option Variable) FrameFault → Result Levels FrameFault
left_at fs p (Ok None) = Ok (unbind fs p.level p.name)
left_at fs p (Ok (Some v)) = Ok (bind fs p.level p.name v)
left_at fs p (Err e) = Err e

-- the frames after the name's place is unset
unfoldable pub removed : Levels → Text → Result Levels FrameFault
removed fs x = at_name fs x (λ p. left_at fs p (left_of p.part (bound fs p.level p.name) x))

-- ## Linking

abbrev pub link_over : Levels → Option Variable → Text → LinkTarget → Result Levels FrameFault
link_over fs None local p = Ok (bind fs (current fs) local (Link p))
link_over fs (Some (Scalar t)) local p = Err (Exists local)
link_over fs (Some (Array es)) local p = Err (Exists local)
link_over fs (Some (Link q)) local p = Ok (bind fs (current fs) local (Link p))

-- what a link can lead to: an element has no elements
abbrev pub link_to_end : Levels → Text → Text → ℕ → Text → Part → Result Levels FrameFault
link_to_end fs other local n x whole = link_over fs (bound fs (current fs) local) local
    (record { level = n; name = x; key = None })
link_to_end fs other local n x (element k) = link_over fs (bound fs (current fs) local) local
    (record { level = n; name = x; key = Some k })
link_to_end fs other local n x nested = Err (NotArray Read other)

-- a link leads to where the links from the other name end; that isn't the local name's own place
abbrev pub link_from : Levels → Bool → Text → Text → Spot → Result Levels FrameFault
link_from fs true other local p = Err Itself
link_from fs false other local p = link_to_end fs other local p.level p.name p.part

abbrev pub link_by_name : Levels → ℕ → Option Name → Bool → Text → Text → Result Levels FrameFault
link_by_name fs n None plain other local = Err (BadName other)
link_by_name fs n (Some name) false other local = Err (BadName local)
link_by_name fs n (Some name) true other local =
    link_from fs (is_at (current fs) local (end_of fs (spot_of n name))) other local
    (end_of fs (spot_of n name))

-- the frames after the local name of the current level is made a link to what the other name is at
-- a level
unfoldable pub linked : Levels → ℕ → Text → Text → Result Levels FrameFault
linked fs n other local = if nat_le (length fs) n then Err (BadLevel n) else link_by_name fs n
    (name_of other) (is_plain local) other local

-- ## The same for a chain

abbrev pub with_frames : Chain → Result Levels FrameFault → Result Chain FrameFault
with_frames c (Ok fs) = Ok (record { frames = fs; aside = c.aside })
with_frames c (Err e) = Err e

abbrev pub after_set : Chain → Text → Text → Result Chain FrameFault
after_set c x t = with_frames c (written c.frames x t)

abbrev pub after_array : Chain → Text → Result Chain FrameFault
after_array c x = with_frames c (made_array c.frames x)

abbrev pub after_unset : Chain → Text → Result Chain FrameFault
after_unset c x = with_frames c (removed c.frames x)

abbrev pub after_link : Chain → ℕ → Text → Text → Result Chain FrameFault
after_link c n other local = with_frames c (linked c.frames n other local)

-- ## Names

abbrev pub kept_if : Bool → Text → List Text → List Text
kept_if true x xs = x ∷ xs
kept_if false x xs = xs

-- the names whose places hold a value, of those of a level
unfoldable pub names_held : Levels → ℕ → Variables → List Text
names_held fs n [] = []
names_held fs n (e ∷ es) = kept_if
    (holds fs (end_of fs (record { level = n; name = e.0; part = whole }))) e.0 (names_held fs n es)

abbrev pub is_own : Variable → Bool
is_own (Scalar t) = true
is_own (Array es) = true
is_own (Link q) = false

-- the names that are no links
unfoldable pub names_own : Variables → List Text
names_own [] = []
names_own (e ∷ es) = kept_if (is_own e.1) e.0 (names_own es)

-- the variables of a level
unfoldable pub variables_at : Levels → ℕ → Variables
variables_at [] n = []
variables_at (f ∷ fs) zero = f.variables
variables_at (f ∷ fs) (suc n) = variables_at fs n

-- the names of the current level; those of level 0; or those of the current level that are no
-- links, of which level 0 has none
unfoldable pub names_of : Scope → Levels → List Text
names_of Visible fs = names_held fs (current fs) (variables_at fs (current fs))
names_of Global fs = names_held fs 0 (variables_at fs 0)
names_of Local fs = if current fs == 0 then [] else names_own (variables_at fs (current fs))

-- ## Arrays

-- the elements of the array that the name is, in the order of insertion
unfoldable pub array_at : Levels → Text → Result (Option (List (Text × Text))) FrameFault
array_at fs x = at_name fs x (λ p. Ok (elements_of p.part (bound fs p.level p.name)))

-- ## Levels

abbrev pub words_in : Option Frame → Option (List Text)
words_in None = None
words_in (Some f) = Some f.words

-- the words of the call at a level, if there is one
unfoldable pub words_at : Levels → ℕ → Option (List Text)
words_at fs n = words_in (slice_get fs n)

-- the chain after a frame with these words is put on top
abbrev pub pushed : Chain → List Text → Chain
pushed c words = record {
  frames = c.frames ++ record { words = words; variables = [] } ∷ [];
  aside = c.aside;
}

-- how many frames a pop leaves: level 0, and those below the part that was set aside last
abbrev pub least : List Aside → ℕ
least [] = 1
least (a ∷ rest) = suc a.above

-- the chain without the frame on top
unfoldable pub popped : Chain → Chain
popped c = if nat_lt (least c.aside) (length c.frames)
    then record { frames = take (pred (length c.frames)) c.frames; aside = c.aside } else c

-- the chain up to a level, with what stood above it set aside
unfoldable pub set_aside : Chain → ℕ → Result Chain FrameFault
set_aside c n = if nat_le (length c.frames) n then Err (BadLevel n) else
    Ok (record {
      frames = take (suc n) c.frames;
      aside = record { above = n; frames = drop (suc n) c.frames } ∷ c.aside;
    })

abbrev pub put_back : Levels → List Aside → Chain
put_back fs [] = record { frames = fs; aside = [] }
put_back fs (a ∷ rest) = record { frames = take (suc a.above) fs ++ a.frames; aside = rest }

-- the chain with the part that was set aside last back above its level, and nothing else there
unfoldable pub brought_back : Chain → Chain
brought_back c = put_back c.frames c.aside
