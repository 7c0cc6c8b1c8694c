-- While control is in a subtree nothing outside it changes.
use Rattle.std.proofs.Common.{pred, sym, ◌≡◌, suc, Bool, true, false, List, [], ◌∷◌, ◌++◌, Option, Some, None, refl, ◌∙◌, ap, subst}
use mathlib.Core.Path.{fun_ext}
use Rattle.tcl_core.specs.Paths.{Place, strip}
use Rattle.tcl_core.specs.Trees.{Tree, Node, What, Event, at_end, where_some, on_node, on_line, on_subtree, on_some, effect, with_own, with_limit, with_depth_limit, counted, deeper, shallower, fresh}
use Rattle.tcl_core.specs.Trees.What.{Changed, Charged, Nested, Unnested, Limited, DepthLimited, Made, Dropped}
use Rattle.tcl_core.specs.Programs.Prog.{wait}
use Rattle.tcl_core.specs.Lives.{idle, never}
use Rattle.tcl_core.specs.Laws.{bare, hidden, rest, Turn, turn_at, turn, NoLeaving, QuietOutside, after}
use Rattle.tcl_core.specs.Laws.Turn.{Enters, Leaves, Inside, Elsewhere, Life}
use Rattle.tcl_core.proofs.PathLaws.{apart, beside, strip-sound}
use Rattle.tcl_core.proofs.RuleLaws.{runs_derived}
use Rattle.tcl_core.proofs.Tracking.{Turned, Tracked, Control, gone, track, no_tape, tracked_after}

module _ {O : Type 0} where
  -- a change that the rest does not show
  abbrev IsMeter : (Option (Node O) → Option (Node O)) → Type 0
  IsMeter f = (o : Option (Node O)) → on_some bare (f o) ≡ on_some bare o

  node_rest : (c q : Place) (f : Option (Node O) → Option (Node O)) (T : Tree O) → rest (on_node (c ++ q) f T) c ≡ rest T c
  node_rest c q f T = fun_ext λ r. go r (strip c r) refl
    where
      go : (r : Place) (s : Option Place) → strip c r ≡ s → hidden s (strip r c) (at_end (strip (c ++ q) r) f (T r)) ≡ hidden s (strip r c) (T r)
      go r (Some z) e = refl
      go r None e = ap (λ o. hidden None (strip r c) (at_end o f (T r))) (apart c r q e)

  subtree_rest : (c q : Place) (f : Option (Node O) → Option (Node O)) (T : Tree O) → rest (on_subtree (c ++ q) f T) c ≡ rest T c
  subtree_rest c q f T = fun_ext λ r. go r (strip c r) refl
    where
      go : (r : Place) (s : Option Place) → strip c r ≡ s → hidden s (strip r c) (where_some (strip (c ++ q) r) f (T r)) ≡ hidden s (strip r c) (T r)
      go r (Some z) e = refl
      go r None e = ap (λ o. hidden None (strip r c) (where_some o f (T r))) (apart c r q e)

  line_hidden : (f : Option (Node O) → Option (Node O)) → IsMeter f → (z : Place) (s : Option Place) (t : Option (Node O)) → hidden None (Some z) (where_some s f t) ≡ hidden None (Some z) t
  line_hidden f g z None t = refl
  line_hidden f g z (Some q) t = g t

  line_rest : (c q : Place) (f : Option (Node O) → Option (Node O)) (T : Tree O) → IsMeter f → rest (on_line (c ++ q) f T) c ≡ rest T c
  line_rest c q f T g = fun_ext λ r. go r (strip c r) refl (strip r c) refl
    where
      go : (r : Place) (s : Option Place) → strip c r ≡ s → (a : Option Place) → strip r c ≡ a → hidden s a (where_some (strip r (c ++ q)) f (T r)) ≡ hidden s a (T r)
      go r (Some z) e a h = refl
      go r None e None h = ap (λ o. where_some o f (T r)) (beside c q r e h)
      go r None e (Some z) h = line_hidden f g z (strip r (c ++ q)) (T r)

  on_some-bare : (f : Node O → Node O) → ((n : Node O) → bare (f n) ≡ bare n) → IsMeter (on_some f)
  on_some-bare f g None = refl
  on_some-bare f g (Some n) = ap Some (g n)

  -- what happens in c's subtree does nothing to the rest
  pub effect_rest : (c q : Place) (x : What O) (T : Tree O) → rest (effect (c ++ q) x T) c ≡ rest T c
  effect_rest c q (Changed o) T = node_rest c q (with_own o) T
  effect_rest c q (Limited l) T = node_rest c q (with_limit l) T
  effect_rest c q (DepthLimited l) T = node_rest c q (with_depth_limit l) T
  effect_rest c q Charged T = line_rest c q counted T (on_some-bare (λ n. record n { count = suc n.count }) (λ n. refl))
  effect_rest c q Nested T = line_rest c q deeper T (on_some-bare (λ n. record n { depth = suc n.depth }) (λ n. refl))
  effect_rest c q Unnested T = line_rest c q shallower T (on_some-bare (λ n. record n { depth = pred n.depth }) (λ n. refl))
  effect_rest c q (Made o s) T = node_rest c q (λ x. Some (fresh o s)) T
  effect_rest c q Dropped T = subtree_rest c q (λ x. None) T
  effect_rest c q _ T = refl

-- from tapes to trees
module _ {O : Type 0} (c : Place) where
  quiet : (mid last : List (Event O)) (T : Tree O) → Tracked c (mid ++ last) true → NoLeaving c mid → rest (after mid T) c ≡ rest T c
  quiet [] last T t f = refl
  quiet (ev ∷ mid) last T t f = by (λ a. quiet mid last (effect ev.place ev.what T) a f.1) (strip c ev.place) refl
    where
      on : ((Tracked c (mid ++ last) true) → rest (after mid (effect ev.place ev.what T)) c ≡ rest (effect ev.place ev.what T) c) → (x : Turn) → turn c ev ≡ x → Turned (Tracked c (mid ++ last)) x true → rest (after mid (effect ev.place ev.what T)) c ≡ rest (effect ev.place ev.what T) c
      on g Enters e y = let z : true ≡ false = y.0 in cc
      on g Leaves e y = absurd (f.0 e)
      on g Inside e y = g y.1
      on g Elsewhere e y = let z : true ≡ false = y.0 in cc
      on g Life e y = g y

      apart_of : strip c ev.place ≡ None → true ≡ false
      apart_of e = let z : Turned (Tracked c (mid ++ last)) (turn_at None ev.what) true = subst (λ o. Turned (Tracked c (mid ++ last)) (turn_at o ev.what) true) e t in z.0

      by : ((Tracked c (mid ++ last) true) → rest (after mid (effect ev.place ev.what T)) c ≡ rest (effect ev.place ev.what T) c) → (o : Option Place) → strip c ev.place ≡ o → rest (after mid (effect ev.place ev.what T)) c ≡ rest T c
      by g None e = let z : true ≡ false = apart_of e in cc
      by g (Some q) e = on g (turn c ev) refl t ∙ subst (λ p. rest (effect p ev.what T) c ≡ rest T c) (sym (strip-sound c ev.place q e)) (effect_rest c q ev.what T)

module _ {O I : Type 0} where
  pub quiet_outside : QuietOutside O I
  quiet_outside prog c w v e first mid last ev a f g h n =
      let t : Control c prog w [] (wait idle never) = track c prog (runs_derived prog w [] (wait idle never) v e a) (λ y. tt) (no_tape c prog v _ f) in
      let s : (d : Bool) × Tracked c (ev ∷ (mid ++ last)) d = tracked_after c first (ev ∷ (mid ++ last)) (gone (strip c []) None) (subst (λ τ. Tracked c τ (gone (strip c []) None)) g t) in
      let y : Turned (Tracked c (mid ++ last)) Enters s.0 = subst (λ x. Turned (Tracked c (mid ++ last)) x s.0) h s.1 in
      quiet c mid last (after (first ++ ev ∷ []) w.tree) y.1 n
