-- The laws.
use Rattle.std.proofs.Common.{Some, List, ◌≡◌, [], ◌∷◌, ◌++◌, Option, None, refl, sym, ◌∙◌, ap, subst}
use Rattle.tcl_core.specs.Paths.{Place, strip}
use Rattle.tcl_core.specs.Trees.{where_none, What, Tree, Event, effect, at}
use Rattle.tcl_core.specs.Trees.What.{Dropped}
use Rattle.tcl_core.specs.Trees.Move.{Enter}
use Rattle.tcl_core.specs.Programs.Prog.{wait}
use Rattle.tcl_core.specs.Runs.{Ending, Runs}
use Rattle.tcl_core.specs.Views.{from_above, kept, view, inside_of}
use Rattle.tcl_core.specs.Lives.{idle, never}
use Rattle.tcl_core.specs.Laws.{Inner, after, Moments, retape, Agrees, Determinism, LivesWithin, NonInterference}
use Rattle.tcl_core.proofs.PathLaws.{rise_back, strip-sound}
use Rattle.tcl_core.proofs.TreeLaws.{effect_fall, effect_within, effect_apart}
use Rattle.tcl_core.proofs.SameRuns.{runs_same}
use Rattle.tcl_core.proofs.Subtrees.{runs_within, runs_apart}

module _ {O I : Type 0} where
  pub determinism : Determinism O I
  determinism prog w z p x v y e o t m b a c d f =
      let same : z ≡ retape w z.tape = λ i. record { tree = sym t i; moves = sym m i; grants = sym b i; tape = z.tape } in
      let g : Agrees w z.tape v e y o = runs_same prog w z.tape p x v e y o a (subst (λ u. Runs prog u p x y o) same c) in
      let rest : g.rest ≡ [] = sym (ap (λ u. u.tape) g.world) ∙ f in
      let tapes : w.tape ≡ z.tape = g.first ∙ ap (λ l. g.made ++ l) (d ∙ sym rest) ∙ sym g.second in
      let ends : v ≡ y = (ap (retape v) d ∙ ap (retape v) (sym rest)) ∙ sym g.world in
      (tapes, ends, sym g.ending)

  pub lives_within : LivesWithin O I
  lives_within prog [] w v a = runs_within prog [] w [] (wait idle never) v None a
  lives_within prog (x ∷ c) w v a = runs_apart prog (x ∷ c) w [] (wait idle never) v None refl a [] idle never (inside_of (x ∷ c) v) None refl (refl, refl)

abbrev halted : Ending
halted = None

module _ {O I : Type 0} where
  pub non_interference : NonInterference O I
  non_interference prog c w v z y a b d e t m s =
      let g : (view c w.tape ≡ view c z.tape) × (inside_of c v ≡ inside_of c y) × (halted ≡ halted) =
      determinism prog (inside_of c w) (inside_of c z) [] (wait idle never) (inside_of c v) (inside_of c y) None None t m s
      (lives_within prog c w v a) (lives_within prog c z y b) (ap (view c) d) (ap (view c) e) in
      (g.0, ap (λ u. u.tree) g.1)

module _ {O : Type 0} where
  moment_apart : (c : Place) (p : Place) (x : What O) (τ σ : List (Event O)) (T : Tree O) → strip c p ≡ None → (b : Option Place) → strip p c ≡ b → after σ (at (effect p x T) c) ≡ after (from_above b x σ) (at T c)
  moment_apart c p Dropped τ σ T e None f = ap (after σ) (effect_apart c p Dropped T e f)
  moment_apart c p Dropped τ σ T e (Some z) f = ap (after σ) (effect_fall c p z T f)
  moment_apart c p x τ σ T e None f = ap (after σ) (effect_apart c p x T e tt)
  moment_apart c p x τ σ T e (Some z) f = ap (after σ) (effect_apart c p x T e tt)

  moment_step : (c : Place) (ev : Event O) (τ : List (Event O)) (T : Tree O) → (s : Option Place) → strip c ev.place ≡ s → at (after τ (effect ev.place ev.what T)) c ≡ after (view c τ) (at (effect ev.place ev.what T) c) → at (after τ (effect ev.place ev.what T)) c ≡ after (kept s (strip ev.place c) ev.what (view c τ)) (at T c)
  moment_step c ev τ T None e h = h ∙ moment_apart c ev.place ev.what τ (view c τ) T e (strip ev.place c) refl
  moment_step c ev τ T (Some q) e h =
      h ∙ ap (after (view c τ)) (ap (λ p. at (effect p ev.what T) c) (strip-sound c ev.place q e) ∙ effect_within c q ev.what T)

  pub moments : Moments O
  moments c [] T = refl
  moments c (ev ∷ τ) T = moment_step c ev τ T (strip c ev.place) refl (moments c τ (effect ev.place ev.what T))

  pub inner : Inner O
  inner a down i ms = ap (λ o. where_none o (Enter (a ++ down) i) ms) (rise_back a down)
