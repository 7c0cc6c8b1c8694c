-- What happens within the tree: no outside is told of it.
use Rattle.std.proofs.Common.{pred, ◌≡◌, refl, sym, ap, subst, ℕ, suc, List, [], ◌∷◌, Option, Some, None}
use Rattle.tcl_core.specs.Paths.{Place, Height, strip, rise_to}
use Rattle.tcl_core.specs.Endings.Reply.{Cut}
use Rattle.tcl_core.specs.Entries.Answer.{Replied}
use Rattle.tcl_core.specs.Trees.{Tree, Node, What, Event, Move, asked, where_none, at_top, effect, at_end, where_some, on_some, with_own, with_limit, with_depth_limit, counted, deeper, shallower, fresh}
use Rattle.tcl_core.specs.Trees.What.{Changed, Charged, Refused, Nested, Unnested, Limited, DepthLimited, Made, Dropped, Out, In, Done, Back, Unfound}
use Rattle.tcl_core.specs.Trees.Move.{Enter, Come, Born, Fall}
use Rattle.tcl_core.specs.Lives.{put, told, Uncut}
use Rattle.tcl_core.specs.Laws.{Spares, Lowers}
use Rattle.tcl_core.proofs.PathLaws.{not_both}
use Rattle.tcl_run_laws.specs.Limits.{HasTop}

-- a way so far up stays in the tree
abbrev pub Inside : Height → Place → Type 0
Inside h p = (a : Place) × (rise_to h p ≡ Some a)

-- it crosses no boundary of the tree, is no entry from outside that finds nobody, and of the tree's top neither makes nor drops it, nor sets its limit of steps
abbrev pub Near : {O : Type 0} → Place → What O → Type 0
Near p (Refused m h) = Inside h p
Near p (Out h down i) = Inside h p
Near p (Back h a) = Inside h p
Near p (In h i) = Inside h p
Near p (Done h r) = Inside h p
Near p (Made o s) = p ≡ [] → Prim.⊥
Near p Dropped = p ≡ [] → Prim.⊥
Near p (Limited l) = p ≡ [] → Prim.⊥
Near p (Unfound t i c) = Prim.⊥
Near p _ = Unit {0}

below : (p : Place) → (p ≡ [] → Prim.⊥) → strip p [] ≡ None
below [] f = absurd (f refl)
below (x ∷ p) f = refl

module _ {O : Type 0} where
  not_top : (p : Place) (m : Move O) (ms : List (Move O)) → (p ≡ [] → Prim.⊥) → at_top p m ms ≡ ms
  not_top [] m ms f = absurd (f refl)
  not_top (x ∷ p) m ms f = refl

  -- it reads no move
  pub asked_near : (p : Place) (x : What O) → Near p x → (ms : List (Move O)) → asked p x ms ≡ ms
  asked_near p (In h i) (a, e) ms = ap (λ o. where_none o (Enter p i) ms) e
  asked_near p (Back h r) (a, e) ms = ap (λ o. where_none o (Come r) ms) e
  asked_near p (Made o s) f ms = not_top p (Born o s) ms f
  asked_near p Dropped f ms = not_top p Fall ms f
  asked_near p (Unfound t i c) f ms = absurd f
  asked_near p x f ms = refl

  -- nothing is told
  pub told_near : (p : Place) (x : What O) → Near p x → (τ : List (Event O)) → told p x τ ≡ τ
  told_near p (Out h down i) (a, e) τ = ap (λ o. put o p (Out h down i) τ) e
  told_near p (Done h r) (a, e) τ = ap (λ o. put o p (Done h r) τ) e
  told_near p (Unfound t i c) f τ = absurd f
  told_near p x f τ = refl

  -- nothing is cut off
  pub uncut_near : (p : Place) (x : What O) → Near p x → Uncut p x
  uncut_near p (Refused m h) (a, e) = λ g. not_both g e
  uncut_near p (Done h (Cut c)) (a, e) = λ g. not_both g e
  uncut_near p (Back h (Replied (Cut c))) (a, e) = λ g. not_both g e
  uncut_near p x f = tt

  -- the top isn't dropped
  pub spares_near : (p : Place) (x : What O) → Near p x → Spares [] p x
  spares_near p Dropped f = below p f
  spares_near p x f = tt

  -- and has the limit that it had
  pub lowers_near : (p : Place) (x : What O) → Near p x → (l : ℕ) → Lowers l x (strip p [])
  lowers_near [] (Limited y) f l = absurd (f refl)
  lowers_near (z ∷ p) (Limited y) f l = tt
  lowers_near p x f l = tt

  -- it stands
  abbrev Tops : Option (Node O) → Type 0
  Tops o = (n : Node O) × (o ≡ Some n)

  abbrev KeepsTop : (Option (Node O) → Option (Node O)) → Type 0
  KeepsTop f = (n : Node O) → Tops (f (Some n))

  at_end_top : (f : Option (Node O) → Option (Node O)) → KeepsTop f → (s : Option Place) (o : Option (Node O)) → Tops o → Tops (at_end s f o)
  at_end_top f g None o r = r
  at_end_top f g (Some []) o (n, e) = subst (λ x. Tops (f x)) (sym e) (g n)
  at_end_top f g (Some (x ∷ q)) o r = r

  where_top : (f : Option (Node O) → Option (Node O)) → KeepsTop f → (s : Option Place) (o : Option (Node O)) → Tops o → Tops (where_some s f o)
  where_top f g None o r = r
  where_top f g (Some q) o (n, e) = subst (λ x. Tops (f x)) (sym e) (g n)

  on_some_top : (f : Node O → Node O) → KeepsTop (on_some f)
  on_some_top f n = (f n, refl)

  pub limited_top : (p : Place) (l : Option ℕ) (T : Tree O) → HasTop T → HasTop (effect p (Limited l) T)
  limited_top p l T r = at_end_top (with_limit l) (on_some_top (λ n. record n { limit = l })) (strip p []) (T []) r

  pub top_near : (p : Place) (x : What O) (T : Tree O) → Near p x → HasTop T → HasTop (effect p x T)
  top_near p (Changed o) T f r = at_end_top (with_own o) (on_some_top (λ n. record n { own = o })) (strip p []) (T []) r
  top_near p Charged T f r = where_top counted (on_some_top (λ n. record n { count = suc n.count })) (Some p) (T []) r
  top_near p Nested T f r = where_top deeper (on_some_top (λ n. record n { depth = suc n.depth })) (Some p) (T []) r
  top_near p Unnested T f r = where_top shallower (on_some_top (λ n. record n { depth = pred n.depth })) (Some p) (T []) r
  top_near p (Limited l) T f r = limited_top p l T r
  top_near p (DepthLimited l) T f r = at_end_top (with_depth_limit l) (on_some_top (λ n. record n { depth_limit = l })) (strip p []) (T []) r
  top_near p (Made o s) T f r = subst (λ z. Tops (at_end z (λ x. Some (fresh o s)) (T []))) (sym (below p f)) r
  top_near p Dropped T f r = subst (λ z. Tops (where_some z (λ x. None) (T []))) (sym (below p f)) r
  top_near p x T f r = r
