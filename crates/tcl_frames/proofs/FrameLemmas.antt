-- What a write through a lent variable does to its frame.
use Rattle.std.proofs.Common.{◌≡◌, Bool, true, false, cond, List, [], ◌∷◌, Option, Some, None, is_some, Result, Ok, Err, refl, sym, ◌∙◌, ap, subst}
use Rattle.std.specs.Prelude.{OnSome, IfOk, OnOk, OnErr, IsSome, MatchOption}
use Rattle.std.proofs.lemmas.Result.{on_ok_weaker, on_err_weaker}
use Rattle.tcl_frames.specs.Access.{assigned, is_linked, left_of, elements_of}
use Rattle.std.specs.Borrow.{MutBor}
use Rattle.std.specs.Option.{option_copied_mut}
use Rattle.std.specs.Map.{lookup, set_value}
use Rattle.std.specs.Str.{bytes_eq}
use Rattle.indexmap.specs.IndexMap.{insert_entry}
use Rattle.tcl_frames.specs.Names.{Text}
use Rattle.tcl_frames.specs.Variables.{Frame, Variables, Part}
use Rattle.tcl_frames.specs.VariableArrays.{Elements, extended, thinned}
use Rattle.tcl_frames.specs.Variables.Part.{whole, element, nested}
use Rattle.std.specs.declared.alloc.AllocError.{AllocError}
use Rattle.tcl_frames.specs.Elements.{PutsElement, PutsElementOf}
use Rattle.tcl_frames.specs.Reached.{link_of}
use Rattle.tcl_frames.specs.Rebinding.{rebound, unbound, with_variable, without_variable, emptied}
use Rattle.tcl_frames.specs.declared.variable.Variable.{Variable}
use Rattle.tcl_frames.specs.declared.variable.Variable.TheVariants.{Scalar, Array, Link}
use Rattle.tcl_frames.specs.declared.fault.FrameFault.{FrameFault}
use Rattle.tcl_frames.specs.declared.fault.FrameError.{FrameError}
use Rattle.tcl_frames.proofs.EntryLemmas.{set_is_insert}

pub at_some : {A P : Type 0} (r : Option A) (x : A) → r ≡ Some x → OnSome r P → P
at_some {A} {P} r x e h = subst (λ o. OnSome o P) e h

pub lent_is : {A : Type 0} (r : Option (MutBor A)) (x : MutBor A) (o : Option A) → r ≡ Some x → option_copied_mut r ≡ o → o ≡ Some x.now
lent_is r x o e h = sym h ∙ ap option_copied_mut e

module _ {V : Type 0} where
  set_same_case : (b : Bool) (e : Text × V) (es fs : List (Text × V)) (v : V) (o : Option V) → cond b (Some e.1) o ≡ Some v → (o ≡ Some v → fs ≡ es) → cond b ((e.0, v) ∷ es) (e ∷ fs) ≡ e ∷ es
  set_same_case true e es fs v o h later = let same : e.1 ≡ v = cc in ap (λ w. (e.0, w) ∷ es) (sym same)
  set_same_case false e es fs v o h later = ap (λ r. e ∷ r) (later h)

  -- what is written anew is what was there
  pub set_same : (q : Text) (es : List (Text × V)) (v : V) → lookup (bytes_eq q) es ≡ Some v → set_value (bytes_eq q) es v ≡ es
  set_same q [] v h = absurd (cc)
  set_same q (e ∷ es) v h = set_same_case (bytes_eq q e.0) e es (set_value (bytes_eq q) es v) v (lookup (bytes_eq q) es) h (set_same q es v)

  pub insert_same : (q : Text) (es : List (Text × V)) (v : V) → lookup (bytes_eq q) es ≡ Some v → insert_entry bytes_eq es q v ≡ es
  insert_same q es v h = sym (set_is_insert q es v (ap is_some h)) ∙ set_same q es v h

pub rebound_is : (f : Frame) (x : Text) (v w : Variable) (o : Result Variable FrameFault) (es : Variables) → o ≡ Ok w → es ≡ set_value (bytes_eq x) f.variables w → lookup (bytes_eq x) f.variables ≡ Some v
    → rebound f x o ≡ Ok (record { words = f.words; variables = es })
rebound_is f x v w o es e set found = ap (rebound f x) e ∙ ap (λ (gs : Variables). Ok (record { words = f.words; variables = gs })) (sym (set ∙ set_is_insert x f.variables w (ap is_some found)))

pub unbound_is : (f : Frame) (x : Text) (v w : Variable) (o : Result (Option Variable) FrameFault) (es : Variables) → o ≡ Ok (Some w) → es ≡ set_value (bytes_eq x) f.variables w → lookup (bytes_eq x) f.variables ≡ Some v
    → unbound f x o ≡ Ok (record { words = f.words; variables = es })
unbound_is f x v w o es e set found = ap (unbound f x) e ∙ ap (λ (gs : Variables). Ok (record { words = f.words; variables = gs })) (sym (set ∙ set_is_insert x f.variables w (ap is_some found)))

pub rebound_same : (f : Frame) (x : Text) (v : Variable) (o : Result Variable FrameFault) → o ≡ Ok v → lookup (bytes_eq x) f.variables ≡ Some v → rebound f x o ≡ Ok f
rebound_same f x v o e found = ap (rebound f x) e ∙ ap (λ (gs : Variables). Ok (record { words = f.words; variables = gs })) (insert_same x f.variables v found)

module _ {A E : Type 0} (F self : Frame) (same : F ≡ self) (x : Text) (v w : Variable) (es : Variables) (r : Result A E) (found : lookup (bytes_eq x) F.variables ≡ Some v) (set : es ≡ set_value (bytes_eq x) F.variables w) where
  pub assign_lent : (part : Part) (t name : Text) → OnOk r (assigned part (Some v) t name ≡ Ok w)
      → OnOk r (rebound self x (assigned part (lookup (bytes_eq x) self.variables) t name) ≡ Ok (record { words = F.words; variables = es }))
  assign_lent part t name h =
      subst (λ (s : Frame). OnOk r (rebound s x (assigned part (lookup (bytes_eq x) s.variables) t name) ≡ Ok (record { words = F.words; variables = es }))) same
      (on_ok_weaker r (λ p. rebound_is F x v w _ es (ap (λ o. assigned part o t name) found ∙ p) set found) h)

  pub extend_lent : (ps : Elements) (name : Text) → OnOk r (extended whole (Some v) ps name ≡ Ok w)
      → OnOk r (rebound self x (extended whole (lookup (bytes_eq x) self.variables) ps name) ≡ Ok (record { words = F.words; variables = es }))
  extend_lent ps name h =
      subst (λ (s : Frame). OnOk r (rebound s x (extended whole (lookup (bytes_eq x) s.variables) ps name) ≡ Ok (record { words = F.words; variables = es }))) same
      (on_ok_weaker r (λ p. rebound_is F x v w _ es (ap (λ o. extended whole o ps name) found ∙ p) set found) h)

  pub remove_lent : (k name : Text) → OnOk r (left_of (element k) (Some v) name ≡ Ok (Some w))
      → OnOk r (unbound self x (left_of (element k) (lookup (bytes_eq x) self.variables) name) ≡ Ok (record { words = F.words; variables = es }))
  remove_lent k name h =
      subst (λ (s : Frame). OnOk r (unbound s x (left_of (element k) (lookup (bytes_eq x) s.variables) name) ≡ Ok (record { words = F.words; variables = es }))) same
      (on_ok_weaker r (λ p. unbound_is F x v w _ es (ap (λ o. left_of (element k) o name) found ∙ p) set found) h)

  pub lent_same : OnErr r (w ≡ v) → OnErr r (record { words = F.words; variables = es } ≡ self)
  lent_same h = on_err_weaker r (λ p. ap (λ (gs : Variables). record { words = F.words; variables = gs }) (set ∙ ap (set_value (bytes_eq x) F.variables) p ∙ set_same x F.variables v found) ∙ same) h

-- ## Changes of what is no link

module _ (F self : Frame) (same : F ≡ self) (x : Text) (v w : Variable) (es : Variables) (found : lookup (bytes_eq x) F.variables ≡ Some v) (set : es ≡ set_value (bytes_eq x) F.variables w) (part : Part) (t name : Text) where
  bound_self : lookup (bytes_eq x) self.variables ≡ Some v
  bound_self = subst (λ (s : Frame). lookup (bytes_eq x) s.variables ≡ Some v) same found

  linked_self : (b : Bool) → is_linked (Some v) ≡ b → is_linked (lookup (bytes_eq x) self.variables) ≡ b
  linked_self b h = ap is_linked bound_self ∙ h

  pub assign_unlinked_lent : (r : Result (Option Text) FrameError)
      → IfOk r (λ left. MatchOption left ((is_linked (Some v) ≡ false) × (assigned part (Some v) t name ≡ Ok w)) (λ u. (is_linked (Some v) ≡ true) × (u ≡ t) × (w ≡ v)))
      → IfOk r (λ left. MatchOption left ((is_linked (lookup (bytes_eq x) self.variables) ≡ false) × (rebound self x (assigned part (lookup (bytes_eq x) self.variables) t name) ≡ Ok (record { words = F.words; variables = es })))
      (λ u. (is_linked (lookup (bytes_eq x) self.variables) ≡ true) × (u ≡ t) × (record { words = F.words; variables = es } ≡ self)))
  assign_unlinked_lent (Err e) h = tt
  assign_unlinked_lent (Ok None) h = (
    linked_self false h.0,
    subst (λ (s : Frame). rebound s x (assigned part (lookup (bytes_eq x) s.variables) t name) ≡ Ok (record { words = F.words; variables = es })) same
        (rebound_is F x v w _ es (ap (λ o. assigned part o t name) found ∙ h.1) set found),
  )
  assign_unlinked_lent (Ok (Some u)) h = (
    linked_self true h.0,
    h.1,
    ap (λ (gs : Variables). record { words = F.words; variables = gs }) (set ∙ ap (set_value (bytes_eq x) F.variables) h.2 ∙ set_same x F.variables v found) ∙ same,
  )

-- ## Elements that are told by their keys

module _ (F self : Frame) (same : F ≡ self) (x k t : Text) (v w : Variable) (es : Variables) (found : lookup (bytes_eq x) F.variables ≡ Some v) (set : es ≡ set_value (bytes_eq x) F.variables w) where
  pub put_lent : (r : Result (Option Text) AllocError) → IfOk r (λ left. MatchOption left (PutsElement v k t w) (λ u. (u ≡ t) × (w ≡ v)))
      → IfOk r (λ left. MatchOption left (PutsElementOf self x k t (record { words = F.words; variables = es })) (λ u. (u ≡ t) × (record { words = F.words; variables = es } ≡ self)))
  put_lent (Err e) h = tt
  put_lent (Ok None) h = (
    ap link_of (subst (λ (s : Frame). lookup (bytes_eq x) s.variables ≡ Some v) same found) ∙ h.0,
    λ name. subst (λ (s : Frame). rebound s x (assigned (element k) (lookup (bytes_eq x) s.variables) t name) ≡ Ok (record { words = F.words; variables = es })) same
        (rebound_is F x v w _ es (ap (λ o. assigned (element k) o t name) found ∙ h.1 name) set found),
  )
  put_lent (Ok (Some u)) h = (
    h.0,
    ap (λ (gs : Variables). record { words = F.words; variables = gs }) (set ∙ ap (set_value (bytes_eq x) F.variables) h.1 ∙ set_same x F.variables v found) ∙ same,
  )

-- ## Elements that a pattern takes

module _ (F self : Frame) (b g : Text) where
  abbrev Thinned : Variables → Frame → Option Variable → Type 0
  Thinned es s o = MatchOption o (record { words = F.words; variables = es } ≡ s) (λ v. record { words = F.words; variables = es } ≡ with_variable s b (thinned g v))

  pub thin_lent : (v : Variable) (es : Variables) → F ≡ self → lookup (bytes_eq b) F.variables ≡ Some v → es ≡ set_value (bytes_eq b) F.variables (thinned g v)
      → MatchOption (lookup (bytes_eq b) self.variables) (record { words = F.words; variables = es } ≡ self) (λ u. record { words = F.words; variables = es } ≡ with_variable self b (thinned g u))
  thin_lent v es same found set =
      subst (λ (s : Frame). Thinned es s (lookup (bytes_eq b) s.variables)) same
      (subst (Thinned es F) (sym found)
      (ap (λ (gs : Variables). record { words = F.words; variables = gs }) (set ∙ set_is_insert b F.variables (thinned g v) (ap is_some found))))

  pub thin_none : (es : Variables) → F ≡ self → lookup (bytes_eq b) F.variables ≡ None → es ≡ F.variables
      → MatchOption (lookup (bytes_eq b) self.variables) (record { words = F.words; variables = es } ≡ self) (λ u. record { words = F.words; variables = es } ≡ with_variable self b (thinned g u))
  thin_none es same none set =
      subst (λ (s : Frame). Thinned es s (lookup (bytes_eq b) s.variables)) same
      (subst (Thinned es F) (sym none)
      (ap (λ (gs : Variables). record { words = F.words; variables = gs }) set))

-- what is no array stays
pub emptied_none : (f : Frame) (b : Text) (g : Option Text) (o : Option Elements) → o ≡ None → f ≡ emptied f b o g
emptied_none f b g o h = sym (ap (λ e. emptied f b e g) h)

-- without a pattern the array goes
pub emptied_whole : (f : Frame) (b : Text) (o : Option Elements) → IsSome o → without_variable f b ≡ emptied f b o None
emptied_whole f b None h = absurd (cc)
emptied_whole f b (Some es) h = refl

-- with one its elements
pub emptied_some : (n f : Frame) (b g : Text) (r : Part) (o : Option Variable) → IsSome (elements_of r o) → MatchOption o (n ≡ f) (λ v. n ≡ with_variable f b (thinned g v)) → n ≡ emptied f b (elements_of r o) (Some g)
emptied_some n f b g whole None i h = absurd (cc)
emptied_some n f b g whole (Some (Scalar t)) i h = absurd (cc)
emptied_some n f b g whole (Some (Array es)) i h = h
emptied_some n f b g whole (Some (Link q)) i h = absurd (cc)
emptied_some n f b g (element k) o i h = absurd (cc)
emptied_some n f b g nested o i h = absurd (cc)
