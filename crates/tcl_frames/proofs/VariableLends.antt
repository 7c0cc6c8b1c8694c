-- What is lent out of a variable and of a frame.
use Rattle.std.proofs.Common.{◌≡◌, List, Option, Some, None, is_some, Ok, sym, ◌∙◌, ap, subst}
use Rattle.std.specs.Prelude.{OnSome, IfSome}
use Rattle.std.specs.Borrow.{MutBor}
use Rattle.std.specs.Map.{lookup, set_value}
use Rattle.std.specs.Str.{bytes_eq}
use Rattle.tcl_frames.specs.Names.{Text}
use Rattle.tcl_frames.specs.Variables.{Frame, Variables, Part}
use Rattle.tcl_frames.specs.Variables.Part.{element}
use Rattle.tcl_frames.specs.Access.{assigned, value_of, read_element}
use Rattle.tcl_frames.specs.Rebinding.{rebound, with_variable}
use Rattle.tcl_frames.specs.declared.variable.Variable.{Variable}
use Rattle.tcl_frames.specs.declared.variable.Variable.TheVariants.{Scalar, Array}
use Rattle.tcl_frames.proofs.EntryLemmas.{set_is_insert}
use Rattle.tcl_frames.proofs.FrameLemmas.{rebound_is, set_same}

-- an element's value that is written anew is a set of it
pub lent_element : (v : Variable) (es fs : List (Text × Text)) (k x t w : Text) → v ≡ Array es → lookup (bytes_eq k) es ≡ Some t → fs ≡ set_value (bytes_eq k) es w
    → assigned (element k) (Some v) w x ≡ Ok (Array fs)
lent_element v es fs k x t w is found set =
    ap (λ o. assigned (element k) (Some o) w x) is ∙ ap (λ gs. Ok (Array gs)) (sym (set ∙ set_is_insert k es w (ap is_some found)))

pub lent_value : (v : Variable) (es : List (Text × Text)) (k x t : Text) → v ≡ Array es → lookup (bytes_eq k) es ≡ Some t → value_of (element k) (Some v) x ≡ Ok t
lent_value v es k x t is found = ap (λ o. value_of (element k) (Some o) x) is ∙ ap (λ o. read_element o x) found

-- a variable's part that is written anew is a set of it in the frame
pub lent_named : (F self : Frame) (b : Text) (v u : Variable) (es : Variables) (part : Part) (t x : Text) → F ≡ self → lookup (bytes_eq b) F.variables ≡ Some v → es ≡ set_value (bytes_eq b) F.variables u
    → assigned part (Some v) t x ≡ Ok u → rebound self b (assigned part (lookup (bytes_eq b) self.variables) t x) ≡ Ok (record { words = F.words; variables = es })
lent_named F self b v u es part t x same found set p =
    subst (λ (s : Frame). rebound s b (assigned part (lookup (bytes_eq b) s.variables) t x) ≡ Ok (record { words = F.words; variables = es })) same
    (rebound_is F b v u _ es (ap (λ o. assigned part o t x) found ∙ p) set found)

module _ (F self : Frame) (b : Text) (v u : Variable) (es : Variables) (same : F ≡ self) (found : lookup (bytes_eq b) F.variables ≡ Some v) (set : es ≡ set_value (bytes_eq b) F.variables u) where
  -- a variable that is written anew is the frame's
  pub lent_variable : {A : Type 0} (r : Option A) (w : Variable) → OnSome r (u ≡ w) → OnSome r (record { words = F.words; variables = es } ≡ with_variable self b w)
  lent_variable None w h = tt
  lent_variable (Some x) w h =
      ap (λ (gs : Variables). record { words = F.words; variables = gs }) (set ∙ set_is_insert b F.variables u (ap is_some found))
      ∙ ap (with_variable F b) h
      ∙ ap (λ (s : Frame). with_variable s b w) same

  -- one that is as it was leaves the frame as it was
  pub lent_back : u ≡ v → record { words = F.words; variables = es } ≡ self
  lent_back h = ap (λ (gs : Variables). record { words = F.words; variables = gs }) (set ∙ ap (set_value (bytes_eq b) F.variables) h ∙ set_same b F.variables v found) ∙ same

pub scalar_found : (v : Variable) (r : Option (MutBor Text)) (o : Option Variable) → o ≡ Some v → IfSome r (λ t. v ≡ Scalar t.now) → IfSome r (λ t. o ≡ Some (Scalar t.now))
scalar_found v None o e h = tt
scalar_found v (Some t) o e h = e ∙ ap Some h
