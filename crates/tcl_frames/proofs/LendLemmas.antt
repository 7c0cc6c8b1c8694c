-- What is lent out of a chain.
use Rattle.std.proofs.Common.{◌≡◌, ℕ, List, slice_get, slice_set, Some, Result, Ok, Err, refl, sym, ◌∙◌, ap, subst}
use Rattle.std.specs.Prelude.{OnErr}
use Rattle.std.proofs.Math.ListN.{length-set}
use Rattle.std.specs.Map.{lookup}
use Rattle.std.specs.Str.{bytes_eq}
use Rattle.tcl_frames.specs.Names.{Text}
use Rattle.tcl_frames.specs.Variables.{Frame, Part}
use Rattle.tcl_frames.specs.Access.{assigned}
use Rattle.tcl_frames.specs.Rebinding.{rebound}
use Rattle.tcl_frames.specs.declared.frame.Change.TheVariants.{Assign}
use Rattle.tcl_frames.specs.Places.{Levels, bound}
use Rattle.tcl_frames.specs.Chain.{Aside, Chain, with_frames}
use Rattle.tcl_frames.specs.Changes.{change_levels}
use Rattle.tcl_frames.specs.Reached.{start, over}
use Rattle.tcl_frames.specs.Sound.{IsSound, HasRoom}
use Rattle.tcl_frames.proofs.SoundLemmas.{bound_at}
use Rattle.tcl_frames.proofs.StepLemmas.{change_level, lent_fit, set_here}
use Rattle.tcl_frames.proofs.ChainLemmas.{chain, with_ok, sound_changed}

module _ (fs : Levels) (as' : List Aside) (i : ℕ) (f g : Frame) (b x t : Text) (part : Part) where
  pub lent_sound : (m : ℕ) → slice_get fs i ≡ Some f → rebound f b (assigned part (lookup (bytes_eq b) f.variables) t x) ≡ Ok g
      → IsSound (chain fs as') × HasRoom m as' → IsSound (chain (slice_set fs i g) as') × HasRoom m as'
  lent_sound m at p h =
      sound_changed fs (slice_set fs i g) (slice_set fs i g) as' m refl
      (lent_fit fs (slice_set fs i g) (over (start i b) part) t x h.0.fit (change_level (Assign t) fs (over (start i b) part) f g x at p)) (length-set fs i g) h

  pub lent_is_set : (self : Chain) → chain fs as' ≡ self → slice_get fs i ≡ Some f → rebound f b (assigned part (lookup (bytes_eq b) f.variables) t x) ≡ Ok g
      → with_frames self (change_levels (Assign t) self.frames (over (start i b) part) x) ≡ Ok (chain (slice_set fs i g) as')
  lent_is_set self same at p =
      subst (λ (s : Chain). with_frames s (change_levels (Assign t) s.frames (over (start i b) part) x) ≡ Ok (chain (slice_set fs i g) as')) same
      (with_ok fs (slice_set fs i g) as' (change_levels (Assign t) fs (over (start i b) part) x) (change_level (Assign t) fs (over (start i b) part) f g x at p))

module _ (fs : Levels) (as' : List Aside) (i : ℕ) (f : Frame) where
  pub kept_sound : (g : Frame) (m : ℕ) → slice_get fs i ≡ Some f → g ≡ f → IsSound (chain fs as') × HasRoom m as' → IsSound (chain (slice_set fs i g) as') × HasRoom m as'
  kept_sound g m at is h = subst (λ (us : Levels). IsSound (chain us as') × HasRoom m as') (sym (ap (λ (k : Frame). slice_set fs i k) is ∙ set_here fs i f at)) h

  pub kept_is : (g : Frame) (self : Chain) → chain fs as' ≡ self → slice_get fs i ≡ Some f → g ≡ f → chain (slice_set fs i g) as' ≡ self
  kept_is g self same at is = ap (λ (us : Levels). chain us as') (ap (λ (k : Frame). slice_set fs i k) is ∙ set_here fs i f at) ∙ same

  pub bound_of : (self : Chain) (b : Text) → chain fs as' ≡ self → slice_get fs i ≡ Some f → bound self.frames i b ≡ lookup (bytes_eq b) f.variables
  bound_of self b same at = subst (λ (s : Chain). bound s.frames i b ≡ lookup (bytes_eq b) f.variables) same (bound_at fs i b f at)

pub at_err : {A E P : Type 0} (r : Result A E) (e : E) → r ≡ Err e → OnErr r P → P
at_err {A} {E} {P} r e is h = subst (λ o. OnErr o P) is h
