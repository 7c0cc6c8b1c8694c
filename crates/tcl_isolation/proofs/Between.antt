-- From an entry into a subtree to what next leaves it, nothing comes from past the top.
use Rattle.std.proofs.Common.{◌≡◌, Bool, true, false, List, [], ◌∷◌, ◌++◌, Option, Some, None, refl, subst}
use Rattle.tcl_core.specs.Paths.{Place, Height, strip, rise_to}
use Rattle.tcl_core.specs.Trees.{What, Event}
use Rattle.tcl_core.specs.Trees.What.{In, Back}
use Rattle.tcl_core.specs.Programs.{Table}
use Rattle.tcl_core.specs.Programs.Prog.{wait}
use Rattle.tcl_core.specs.Runs.{World, Ending}
use Rattle.tcl_core.specs.Lives.{Lives, idle, never}
use Rattle.tcl_core.specs.Laws.{Turn, comes_in, turn_at, turn, NoLeaving}
use Rattle.tcl_core.specs.Laws.Turn.{Enters, Leaves, Inside, Elsewhere, Life}
use Rattle.tcl_core.proofs.PathLaws.{not_both, strip-sound, rise_to_past}
use Rattle.tcl_core.proofs.RuleLaws.{runs_derived}
use Rattle.tcl_core.proofs.Tracking.{Turned, Tracked, Control, gone, track, no_tape, tracked_after}
use Rattle.tcl_isolation.proofs.Untouching.{AreUnheard, Unheard}

came : (f : Bool → Type 0) (c p q : Place) (h : Height) → strip c p ≡ Some q → (o : Option Place) → rise_to h q ≡ o → Turned f (comes_in o) true → rise_to h p ≡ None → Prim.⊥
came f c p q h e None g t n = let z : true ≡ false = t.0 in cc
came f c p q h e (Some a) g t n = not_both (rise_to_past c q h (subst (λ r. rise_to h r ≡ None) (strip-sound c p q e) n)) g

module _ {O : Type 0} (c : Place) where
  unheard_at : (f : Bool → Type 0) (p : Place) (s : Option Place) (x : What O) → strip c p ≡ s → Turned f (turn_at s x) true → Unheard p x
  unheard_at f p None (In h i) e t = λ n. (let z : true ≡ false = t.0 in cc)
  unheard_at f p None (Back h a) e t = λ n. (let z : true ≡ false = t.0 in cc)
  unheard_at f p (Some q) (In h i) e t = came f c p q h e (rise_to h q) refl t
  unheard_at f p (Some q) (Back h a) e t = came f c p q h e (rise_to h q) refl t
  unheard_at f p s x e t = tt

  -- while control is in c and doesn't leave it, nothing comes from past the top of the whole tree
  pub unheard_within : (mid last : List (Event O)) → Tracked c (mid ++ last) true → NoLeaving c mid → AreUnheard mid
  unheard_within [] last t f = tt
  unheard_within (ev ∷ mid) last t f = (unheard_at (Tracked c (mid ++ last)) ev.place (strip c ev.place) ev.what refl t, on (λ a. unheard_within mid last a f.1) (turn c ev) refl t)
    where
      on : (Tracked c (mid ++ last) true → AreUnheard mid) → (x : Turn) → turn c ev ≡ x → Turned (Tracked c (mid ++ last)) x true → AreUnheard mid
      on g Enters e y = let z : true ≡ false = y.0 in cc
      on g Leaves e y = absurd (f.0 e)
      on g Inside e y = g y.1
      on g Elsewhere e y = let z : true ≡ false = y.0 in cc
      on g Life e y = g y

module _ {O I : Type 0} where
  -- from an entry into c, or an answer to a call of c's, to the next call or end that leaves it
  pub nothing_between : (prog : Table O I) (c : Place) (w v : World O) (e : Ending) (first mid last : List (Event O)) (ev : Event O) →
      Lives prog w v e → v.tape ≡ [] → w.tape ≡ first ++ ev ∷ (mid ++ last) → turn c ev ≡ Enters → NoLeaving c mid → AreUnheard mid
  nothing_between prog c w v e first mid last ev a f g h n =
      let t : Control c prog w [] (wait idle never) = track c prog (runs_derived prog w [] (wait idle never) v e a) (λ y. tt) (no_tape c prog v _ f) in
      let s : (d : Bool) × Tracked c (ev ∷ (mid ++ last)) d = tracked_after c first (ev ∷ (mid ++ last)) (gone (strip c []) None) (subst (λ τ. Tracked c τ (gone (strip c []) None)) g t) in
      let y : Turned (Tracked c (mid ++ last)) Enters s.0 = subst (λ x. Turned (Tracked c (mid ++ last)) x s.0) h s.1 in
      unheard_within c mid last y.1 n
