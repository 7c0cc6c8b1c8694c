-- No step after a stop, of a run with its entry and its end.
use Rattle.std.proofs.Common.{◌≡◌, true, false, List, [], ◌∷◌, ◌++◌, Option, Some, None}
use Rattle.tcl_core.specs.Endings.{Reply}
use Rattle.tcl_core.specs.Entries.{Entry}
use Rattle.tcl_core.specs.Laws.{Obeys, Unmoved, freed, raised_at, unmoved_by}
use Rattle.tcl_core.specs.Paths.{Height, Place, rise_to, strip}
use Rattle.tcl_core.specs.Execution.{event}
use Rattle.tcl_core.specs.Trees.{Event, What}
use Rattle.tcl_core.specs.Trees.What.{Charged, Done, In}

freed_so : {A B : Type 0} (o : Option Place) → (A → B) → freed o A → freed o B
freed_so None f a = tt
freed_so (Some p) f a = f a

module _ (O : Type 0) where
  unmoved_so : {A B : Type 0} (o : Option Place) (x : What O) → (A → B) → unmoved_by o x A → unmoved_by o x B
  unmoved_so (Some q) Charged f a = absurd a
  unmoved_so (Some q) (Done h r) f a = freed_so (rise_to h q) f a
  unmoved_so o x f a = f a

  freed_last : (o : Option Place) → freed o (Unit {0})
  freed_last None = tt
  freed_last (Some p) = tt

  unmoved_end : (o : Option Place) (h : Height) (r : Reply) → unmoved_by {O = O} o (Done h r) (Unit {0})
  unmoved_end None h r = tt
  unmoved_end (Some q) h r = freed_last (rise_to h q)

  -- an end is no step
  unmoved_last : (c : Place) (τ : List (Event O)) (p : Place) (h : Height) (r : Reply) → Unmoved c τ → Unmoved c (τ ++ event p (Done h r) ∷ [])
  unmoved_last c [] p h r u = unmoved_end (strip c p) h r
  unmoved_last c (ev ∷ τ) p h r u = unmoved_so (strip c ev.place) ev.what (unmoved_last c τ p h r) u

  never : (o : Option Place) (h : Height) (r : Reply) → {A : Type 0} → raised_at {O = O} o (Done h r) ≡ true → A
  never None h r e = let x : false ≡ true = e in cc
  never (Some q) h r e = let x : false ≡ true = e in cc

  obeys_last : (c : Place) (τ : List (Event O)) (p : Place) (h : Height) (r : Reply) → Obeys c τ → Obeys c (τ ++ event p (Done h r) ∷ [])
  obeys_last c [] p h r u = (λ e. never (strip c p) h r e, tt)
  obeys_last c (ev ∷ τ) p h r (f, u) = (λ e. unmoved_last c τ p h r (f e), obeys_last c τ p h r u)

  not_entered : (o : Option Place) (h : Height) (i : Entry) → {A : Type 0} → raised_at {O = O} o (In h i) ≡ true → A
  not_entered None h i e = let x : false ≡ true = e in cc
  not_entered (Some q) h i e = let x : false ≡ true = e in cc

  -- what is so of what happens in an entry is so of it with its beginning and its end
  pub obeys_entry : (c : Place) (τ : List (Event O)) (p q : Place) (h k : Height) (i : Entry) (r : Reply) → Obeys c τ → Obeys c (event p (In h i) ∷ τ ++ event q (Done k r) ∷ [])
  obeys_entry c τ p q h k i r u = (λ e. not_entered (strip c p) h i e, obeys_last c τ q k r u)
