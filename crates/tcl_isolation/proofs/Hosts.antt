-- A host of which nobody asks anything.
use Rattle.std.proofs.Common.{◌≡◌, ℕ, List, [], ◌∷◌, ◌++◌, Option, Some, None, refl, ◌∙◌, subst}
use Rattle.tcl_core.specs.Endings.{Completion, Reply}
use Rattle.tcl_core.specs.Entries.{Entry}
use Rattle.tcl_core.specs.Entries.Entry.{AskHost}
use Rattle.tcl_core.specs.Laws.{NoLeaving, turn}
use Rattle.tcl_core.specs.Laws.Turn.{Enters}
use Rattle.tcl_core.specs.Paths.{Path, Place, Height, rise_to}
use Rattle.tcl_core.specs.Programs.{Table, Wait}
use Rattle.tcl_core.specs.Runs.{gone_from}
use Rattle.tcl_core.specs.Execution.{Chain, Crossings, Open, answers_to, before, calls_after, event, hears, more, none, passing}
use Rattle.tcl_core.specs.Trees.{Event, Tree, What, effect}
use Rattle.tcl_core.specs.Trees.What.{Out, In, Done, Back, Refused, Unfound}
use Rattle.tcl_host.specs.declared.reply.HostReply.{HostReply}
use Rattle.tcl_host.specs.declared.request.Request.{Request}
use Rattle.tcl_run.specs.Outsides.{hosted, hosted_at, hosted_by}
use Rattle.tcl_tree.specs.Own.{Own}
use Rattle.tcl_isolation.specs.Visits.{CallsNobody, WatchedVisit, visit}
use Rattle.tcl_isolation.proofs.Between.{nothing_between}
use Rattle.tcl_isolation.proofs.Records.{AreFound, IsFound, found_append, found_back}
use Rattle.tcl_isolation.proofs.Watching.{life}
use Rattle.tcl_isolation.proofs.Untouching.{AreUnheard, Unheard, nothing_comes}

module _ {S : Type 0} (step : S → Request → HostReply → S → Type 0) where
  out_by : (g : Option ℕ) (o : S) (s : Wait) (h : Height) (down : Path) (i : Entry) (u : S) → hosted_by step g o s (Out h down i) u → u ≡ o
  out_by g o None h down i u e = e
  out_by g o (Some (None, AskHost q, d)) h down i u e = e
  out_by g o (Some (None, _, d)) h down i u e = e
  out_by g o (Some (Some n, j, d)) h down i u e = e

  done_by : (g : Option ℕ) (o : S) (s : Wait) (h : Height) (r : Reply) (u : S) → hosted_by step g o s (Done h r) u → u ≡ o
  done_by g o None h r u e = e
  done_by g o (Some (None, AskHost q, d)) h r u e = e
  done_by g o (Some (None, _, d)) h r u e = e
  done_by g o (Some (Some n, j, d)) h r u e = e

  -- a host hands in no entry that could find nobody
  stray_by : (g : Option ℕ) (o : S) (s : Wait) (t : Path) (i : Entry) (c : Completion) (u : S) → hosted_by step g o s (Unfound t i c) u → Prim.⊥
  stray_by g o None t i c u e = e
  stray_by g o (Some (None, AskHost q, d)) t i c u e = e
  stray_by g o (Some (None, _, d)) t i c u e = e
  stray_by g o (Some (Some n, j, d)) t i c u e = e

  passed : (a : Option Place) (T : Tree Own) (o : S) (s : Wait) (ev : Event Own) (u : S) → (hosted_at step T o s ev u → u ≡ o) → passing a (hosted_at step) T o s ev u → u ≡ o
  passed None T o s ev u f e = f e
  passed (Some a) T o s ev u f e = e

  within : (q a : Option Place) (T : Tree Own) (o : S) (s : Wait) (ev : Event Own) (u : S) → q ≡ a → (q ≡ None → Prim.⊥) → passing a (hosted_at step) T o s ev u → u ≡ o
  within q None T o s ev u e f g = absurd (f e)
  within q (Some a) T o s ev u e f g = g

  still : (T : Tree Own) (o : S) (s : Wait) (p : Place) (x : What Own) (u : S) → Unheard p x → hears (hosted step) T o s p x u → u ≡ o
  still T o s p (Out h down i) u f t = passed (rise_to h p) T o s (event p (Out h down i)) u (out_by (gone_from s T p) o s h down i u) t
  still T o s p (Done h r) u f t = passed (rise_to h p) T o s (event p (Done h r)) u (done_by (gone_from s T p) o s h r u) t
  still T o s p (In h i) u f t = within (rise_to h p) (rise_to h p) T o s (event p (In h i)) u refl f t
  still T o s p (Back h a) u f t = within (rise_to h p) (rise_to h p) T o s (event p (Back h a)) u refl f t
  still T o s p (Unfound q i c) u f t = absurd (stray_by (gone_from s T p) o s q i c u t)
  still T o s p (Refused m None) u f t = absurd t
  still T o s p (Refused m (Some n)) u f t = t
  still T o s p _ u f t = t

  pub unasked : {cs ds : Open} (T V : Tree Own) (o z : S) (τ : List (Event Own)) → AreUnheard τ → Chain (Crossings (hosted step)) cs T o τ ds V z → z ≡ o
  unasked T V o z [] f none = refl
  unasked {cs} T V o z (ev ∷ τ) f (more {u = u} a k) = unasked {cs = calls_after T ev.place ev.what cs} (effect ev.place ev.what T) V u z τ f.1 k ∙ still T o (answers_to ev.place ev.what cs) ev.place ev.what u f.0 a.told

  pub host_untouched : {I : Type 0} (prog : Table Own I) (T V : Tree Own) (o z : S) (u : Path) (i : Entry) (c : Place) (crossings : List (Event Own)) (r : Reply) →
      WatchedVisit (hosted step) prog T o (c ++ u) i c crossings V z r → CallsNobody crossings → z ≡ o
  host_untouched prog T V o z u i c crossings r w f = unasked T V o z w.events (nothing_comes (hosted step) prog T V o z u i c crossings r w f) w.outside

  -- from an entry into the subtree, or an answer to a call of it, to the next call or end that leaves it
  pub host_between : {I : Type 0} (prog : Table Own I) (T V : Tree Own) (o z : S) (t : Path) (i : Entry) (c : Place) (crossings : List (Event Own)) (r : Reply) (w : WatchedVisit (hosted step) prog T o t i c crossings V z r)
      (first mid last : List (Event Own)) (ev : Event Own) (cs ds : Open) (M N : Tree Own) (o1 o2 : S) → visit t i w.events r ≡ first ++ ev ∷ (mid ++ last) → turn c ev ≡ Enters → NoLeaving c mid → Chain (Crossings (hosted step)) cs M o1 mid ds N o2 → o2 ≡ o1
  host_between prog T V o z t i c crossings r w first mid last ev cs ds M N o1 o2 e enters stays k =
      unasked M N o1 o2 mid (nothing_between prog c (before T (visit t i w.events r)) (before V []) None first mid last ev (life (hosted step) prog T V o z t i c crossings r w) refl e enters stays) k

  -- ## Entries find somebody

  found_so : (T : Tree Own) (o : S) (s : Wait) (p : Place) (x : What Own) (u : S) → hears (hosted step) T o s p x u → IsFound x
  found_so T o s p (Unfound t i c) u g = stray_by (gone_from s T p) o s t i c u g
  found_so T o s p x u g = tt

  all_found : {cs ds : Open} (T V : Tree Own) (o z : S) (τ : List (Event Own)) → Chain (Crossings (hosted step)) cs T o τ ds V z → AreFound τ
  all_found T V o z [] none = tt
  all_found {cs} T V o z (ev ∷ τ) (more {u = u} a k) = (found_so T o (answers_to ev.place ev.what cs) ev.place ev.what u a.told, all_found {cs = calls_after T ev.place ev.what cs} (effect ev.place ev.what T) V u z τ k)

  -- so each happening of an evaluation with a host is none that finds nobody
  pub found_at : {I : Type 0} (prog : Table Own I) (T V : Tree Own) (o z : S) (t : Path) (i : Entry) (c : Place) (crossings : List (Event Own)) (r : Reply) (w : WatchedVisit (hosted step) prog T o t i c crossings V z r)
      (first last : List (Event Own)) (ev : Event Own) → visit t i w.events r ≡ first ++ ev ∷ last → IsFound ev.what
  found_at prog T V o z t i c crossings r w first last ev e =
      let within : AreFound w.events = all_found T V o z w.events w.outside in
      let all : AreFound (visit t i w.events r) = (tt, found_append w.events (event t (Done None r) ∷ []) within (tt, tt)) in
      (found_back first (ev ∷ last) (subst AreFound e all)).0
