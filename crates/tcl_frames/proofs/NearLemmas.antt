-- A name that is one of the current frame, and stands for a value there.
use Rattle.std.proofs.Common.{◌≡◌, ◌≢◌, ℕ, ◌-◌, ◌<◌, true, false, length, get_or, slice_get, slice_set, List, Option, Some, None, Result, Ok, Err, refl, sym, ◌∙◌, ap, subst}
use Rattle.std.specs.Prelude.{IfSome, IfOk, OnErr, MatchOption, IsSome}
use Rattle.std.specs.Borrow.{Bor}
use Rattle.std.specs.declared.alloc.AllocError.{AllocError}
use Rattle.std.specs.Map.{lookup}
use Rattle.std.specs.Str.{bytes_eq}
use Rattle.tcl_frames.specs.Names.{Text, is_simple}
use Rattle.tcl_frames.specs.Variables.{Frame}
use Rattle.tcl_frames.specs.Variables.Part.{whole, element}
use Rattle.tcl_frames.specs.VariableArrays.{element_name}
use Rattle.tcl_frames.specs.Elements.{PutsElementOf}
use Rattle.tcl_frames.specs.Access.{assigned, value_of}
use Rattle.tcl_frames.specs.Rebinding.{rebound, with_variable}
use Rattle.tcl_frames.specs.declared.variable.Variable.TheVariants.{Scalar}
use Rattle.tcl_frames.specs.declared.frame.Change.TheVariants.{Assign}
use Rattle.tcl_frames.proofs.NameLemmas.{simple_name, element_named}
use Rattle.tcl_frames.specs.Places.{Levels, Spot, current, bound, end_of}
use Rattle.tcl_frames.specs.Chain.{Aside, Chain, read, written, after_set}
use Rattle.tcl_frames.specs.Changes.{change_levels}
use Rattle.tcl_frames.specs.Reached.{start, over, link_of}
use Rattle.tcl_frames.specs.Sound.{IsSound, HasRoom}
use Rattle.tcl_frames.proofs.ChainLemmas.{chain, less, with_ok, sound_positive}
use Rattle.tcl_frames.proofs.LendLemmas.{lent_sound, kept_sound, kept_is}
use Rattle.tcl_frames.proofs.ReachLemmas.{follow_here}
use Rattle.tcl_frames.proofs.SoundLemmas.{bound_at}
use Rattle.tcl_frames.proofs.StepLemmas.{read_is, written_is, change_is, change_level, below_current}

module _ (fs : Levels) (n : ℕ) (x t : Text) (f : Frame) (simple : is_simple x ≡ true) (is : n ≡ current fs) (at : slice_get fs n ≡ Some f) (found : lookup (bytes_eq x) f.variables ≡ Some (Scalar t)) where
  bound_is : bound fs n x ≡ Some (Scalar t)
  bound_is = bound_at fs n x f at ∙ found

  stays : end_of fs (start n x) ≡ start n x
  stays = follow_here fs (start n x) (ap link_of bound_is)

  pub read_scalar : read fs x ≡ Ok t
  read_scalar =
      read_is fs x (record { is_global = false; base = x; key = None }) n (simple_name x simple) is
      ∙ ap (λ (p : Spot). value_of p.part (bound fs p.level p.name) x) stays
      ∙ ap (λ o. value_of whole o x) bound_is

  set_scalar : (w : Text) → written fs x w ≡ change_levels (Assign w) fs (start n x) x
  set_scalar w =
      written_is fs x w
      ∙ change_is (Assign w) fs x (record { is_global = false; base = x; key = None }) n (simple_name x simple) is
      ∙ ap (λ (p : Spot). change_levels (Assign w) fs p x) stays

  pub scalar_rebound : (g : Frame) (w : Text) → g ≡ with_variable f x (Scalar w) → rebound f x (assigned whole (lookup (bytes_eq x) f.variables) w x) ≡ Ok g
  scalar_rebound g w made = ap (λ o. rebound f x (assigned whole o w x)) found ∙ ap Ok (sym made)

  pub written_scalar : (g : Frame) (w : Text) → g ≡ with_variable f x (Scalar w) → written fs x w ≡ Ok (slice_set fs n g)
  written_scalar g w made = set_scalar w ∙ change_level (Assign w) fs (start n x) f g x at (scalar_rebound g w made)

-- the same in the chain as it was passed
module _ (fs : Levels) (as' : List Aside) (self : Chain) (same : chain fs as' ≡ self) (n : ℕ) (x t : Text) (f : Frame) (simple : is_simple x ≡ true) (is : n ≡ current self.frames) (at : slice_get fs n ≡ Some f) (found : lookup (bytes_eq x) f.variables ≡ Some (Scalar t)) where
  level_is : n ≡ current fs
  level_is = is ∙ ap (λ (s : Chain). current s.frames) (sym same)

  pub read_there : read self.frames x ≡ Ok t
  read_there = subst (λ (s : Chain). read s.frames x ≡ Ok t) same (read_scalar fs n x t f simple level_is at found)

  pub rebound_there : (g : Frame) (w : Text) → g ≡ with_variable f x (Scalar w) → rebound f x (assigned whole (lookup (bytes_eq x) f.variables) w x) ≡ Ok g
  rebound_there = scalar_rebound fs n x t f simple level_is at found

  pub set_there : (g : Frame) (w : Text) → g ≡ with_variable f x (Scalar w) → after_set self x w ≡ Ok (chain (slice_set fs n g) as')
  set_there g w made =
      subst (λ (s : Chain). after_set s x w ≡ Ok (chain (slice_set fs n g) as')) same
      (with_ok fs (slice_set fs n g) as' (written fs x w) (written_scalar fs n x t f simple level_is at found g w made))

pub read_last : (fs : Levels) (self : Chain) (x : Text) (f : Frame) (r : Option (Bor Text)) → fs ≡ self.frames → is_simple x ≡ true → slice_get fs (length fs - 1) ≡ Some f → IfSome r (λ v. lookup (bytes_eq x) f.variables ≡ Some (Scalar v.now))
    → IfSome r (λ v. read self.frames x ≡ Ok v.now)
read_last fs self x f None same simple at found = tt
read_last fs self x f (Some v) same simple at found =
    subst (λ (gs : Levels). read gs x ≡ Ok v.now) same
    (read_scalar fs (current fs) x v.now f simple refl (ap (slice_get fs) (sym (less (length fs))) ∙ at) found)

pub below : (fs : Levels) (as' : List Aside) (self : Chain) → chain fs as' ≡ self → (n : ℕ) → n ≡ current self.frames → IsSound (chain fs as') → n < length fs
below fs as' self same n is sound = below_current false fs n (is ∙ ap (λ (s : Chain). current s.frames) (sym same)) (sound_positive (chain fs as') sound)

-- ## A name that the current frame doesn't have

module _ (fs : Levels) (n : ℕ) (x t : Text) (f g : Frame) (simple : is_simple x ≡ true) (is : n ≡ current fs) (at : slice_get fs n ≡ Some f) (absent : lookup (bytes_eq x) f.variables ≡ None) (made : g ≡ with_variable f x (Scalar t)) where
  pub rebound_absent : rebound f x (assigned whole (lookup (bytes_eq x) f.variables) t x) ≡ Ok g
  rebound_absent = ap (λ o. rebound f x (assigned whole o t x)) absent ∙ ap Ok (sym made)

  pub written_absent : written fs x t ≡ Ok (slice_set fs n g)
  written_absent =
      written_is fs x t
      ∙ change_is (Assign t) fs x (record { is_global = false; base = x; key = None }) n (simple_name x simple) is
      ∙ ap (λ (p : Spot). change_levels (Assign t) fs p x) (follow_here fs (start n x) (ap link_of (bound_at fs n x f at ∙ absent)))
      ∙ change_level (Assign t) fs (start n x) f g x at rebound_absent

module _ (fs : Levels) (as' : List Aside) (n : ℕ) (x t : Text) (f g : Frame) (r : Result (Option Text) AllocError) (at : slice_get fs n ≡ Some f) (inserted : IfOk r (λ left. MatchOption left ((lookup (bytes_eq x) f.variables ≡ None) × (g ≡ with_variable f x (Scalar t))) (λ v. IsSome (lookup (bytes_eq x) f.variables) × (v ≡ t) × (g ≡ f)))) where
  -- where the frame has it, nothing changes
  pub inserted_near : (self : Chain) → chain fs as' ≡ self → is_simple x ≡ true → n ≡ current self.frames → IfOk r (λ left. MatchOption left (after_set self x t ≡ Ok (chain (slice_set fs n g) as')) (λ v. (v ≡ t) × (chain (slice_set fs n g) as' ≡ self)))
  inserted_near self same simple is = by r inserted
    where
      level_is : n ≡ current fs
      level_is = is ∙ ap (λ (s : Chain). current s.frames) (sym same)

      by : (q : Result (Option Text) AllocError) → IfOk q (λ left. MatchOption left ((lookup (bytes_eq x) f.variables ≡ None) × (g ≡ with_variable f x (Scalar t))) (λ v. IsSome (lookup (bytes_eq x) f.variables) × (v ≡ t) × (g ≡ f)))
          → IfOk q (λ left. MatchOption left (after_set self x t ≡ Ok (chain (slice_set fs n g) as')) (λ v. (v ≡ t) × (chain (slice_set fs n g) as' ≡ self)))
      by (Err e) h = tt
      by (Ok None) h =
          subst (λ (s : Chain). after_set s x t ≡ Ok (chain (slice_set fs n g) as')) same
          (with_ok fs (slice_set fs n g) as' (written fs x t) (written_absent fs n x t f g simple level_is at h.0 h.1))
      by (Ok (Some v)) h = (h.1, kept_is fs as' n f g self same at h.2)

  pub inserted_sound : (m : ℕ) → is_simple x ≡ true → n ≡ current fs → OnErr r (g ≡ f) → IsSound (chain fs as') × HasRoom m as' → IsSound (chain (slice_set fs n g) as') × HasRoom m as'
  inserted_sound m simple is unchanged sound = by r inserted unchanged
    where
      by : (q : Result (Option Text) AllocError) → IfOk q (λ left. MatchOption left ((lookup (bytes_eq x) f.variables ≡ None) × (g ≡ with_variable f x (Scalar t))) (λ v. IsSome (lookup (bytes_eq x) f.variables) × (v ≡ t) × (g ≡ f)))
          → OnErr q (g ≡ f) → IsSound (chain (slice_set fs n g) as') × HasRoom m as'
      by (Err e) h k = kept_sound fs as' n f g m at k sound
      by (Ok None) h k = lent_sound fs as' n f g x x t whole m at (rebound_absent fs n x t f g simple is at h.0 h.1) sound
      by (Ok (Some v)) h k = kept_sound fs as' n f g m at h.2 sound

-- ## An element of an array of the current frame

module _ (fs : Levels) (n : ℕ) (a k t : Text) (f g : Frame) (simple : is_simple a ≡ true) (unopened : (i : ℕ) → i < length a → get_or a i 0 ≢ 40) (is : n ≡ current fs) (at : slice_get fs n ≡ Some f) (puts : PutsElementOf f a k t g) where
  pub written_element : written fs (element_name a k) t ≡ Ok (slice_set fs n g)
  written_element =
      written_is fs (element_name a k) t
      ∙ change_is (Assign t) fs (element_name a k) (record { is_global = false; base = a; key = Some k }) n (element_named a k simple unopened) is
      ∙ ap (λ (p : Spot). change_levels (Assign t) fs p (element_name a k)) (follow_here fs (over (start n a) (element k)) (ap link_of (bound_at fs n a f at) ∙ puts.0))
      ∙ change_level (Assign t) fs (over (start n a) (element k)) f g (element_name a k) at (puts.1 (element_name a k))

module _ (fs : Levels) (as' : List Aside) (n : ℕ) (a k t : Text) (f g : Frame) (r : Result (Option Text) AllocError) (at : slice_get fs n ≡ Some f) (put : IfOk r (λ left. MatchOption left (PutsElementOf f a k t g) (λ v. (v ≡ t) × (g ≡ f)))) where
  -- where it isn't put, nothing changes
  pub put_near : (self : Chain) → chain fs as' ≡ self → is_simple a ≡ true → ((i : ℕ) → i < length a → get_or a i 0 ≢ 40) → n ≡ current self.frames
      → IfOk r (λ left. MatchOption left (after_set self (element_name a k) t ≡ Ok (chain (slice_set fs n g) as')) (λ v. (v ≡ t) × (chain (slice_set fs n g) as' ≡ self)))
  put_near self same simple unopened is = by r put
    where
      level_is : n ≡ current fs
      level_is = is ∙ ap (λ (s : Chain). current s.frames) (sym same)

      by : (q : Result (Option Text) AllocError) → IfOk q (λ left. MatchOption left (PutsElementOf f a k t g) (λ v. (v ≡ t) × (g ≡ f)))
          → IfOk q (λ left. MatchOption left (after_set self (element_name a k) t ≡ Ok (chain (slice_set fs n g) as')) (λ v. (v ≡ t) × (chain (slice_set fs n g) as' ≡ self)))
      by (Err e) h = tt
      by (Ok None) h =
          subst (λ (s : Chain). after_set s (element_name a k) t ≡ Ok (chain (slice_set fs n g) as')) same
          (with_ok fs (slice_set fs n g) as' (written fs (element_name a k) t) (written_element fs n a k t f g simple unopened level_is at h))
      by (Ok (Some v)) h = (h.0, kept_is fs as' n f g self same at h.1)

  pub put_sound : (m : ℕ) → OnErr r (g ≡ f) → IsSound (chain fs as') × HasRoom m as' → IsSound (chain (slice_set fs n g) as') × HasRoom m as'
  put_sound m unchanged sound = by r put unchanged
    where
      by : (q : Result (Option Text) AllocError) → IfOk q (λ left. MatchOption left (PutsElementOf f a k t g) (λ v. (v ≡ t) × (g ≡ f)))
          → OnErr q (g ≡ f) → IsSound (chain (slice_set fs n g) as') × HasRoom m as'
      by (Err e) h e-same = kept_sound fs as' n f g m at e-same sound
      by (Ok None) h e-same = lent_sound fs as' n f g a (element_name a k) t (element k) m at (h.1 (element_name a k)) sound
      by (Ok (Some v)) h e-same = kept_sound fs as' n f g m at h.1 sound
