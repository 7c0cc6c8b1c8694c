-- What the laws of isolation say of a run that was recorded.
use Rattle.std.proofs.Common.{◌≡◌, ◌∙◌, ℕ, ◌≤◌, ◌+◌, ◌∷◌, ◌++◌, Option, Some, sym, ap, subst, arith}
use Rattle.tcl_run_laws.proofs.BudgetWholes.{steps}
use Rattle.tcl_run_laws.proofs.Orders.{orderly_relimited}
use Rattle.tcl_run_laws.proofs.Tables.{orderly}
use Rattle.tcl_core.specs.Entries.Entry.{Eval}
use Rattle.tcl_core.specs.Execution.{event}
use Rattle.tcl_core.specs.Laws.{ArePlain, AsLimited, IsSafeAt, IsSafeBelow, after, rest}
use Rattle.tcl_core.specs.Lives.{React, count_at, limit_at, limited, outcome_of, outs_of}
use Rattle.tcl_core.specs.Lives.Outcome.{Finished}
use Rattle.tcl_core.specs.Paths.{Path, Text}
use Rattle.tcl_core.specs.Trees.{Node, Tree, at}
use Rattle.tcl_core.specs.Trees.What.{Dropped}
use Rattle.tcl_core.specs.Views.{moves_of, steps_of, view}
use Rattle.tcl_eval.specs.Running.{ending_of, root_count, root_limit}
use Rattle.tcl_eval.specs.declared.running.End.{End}
use Rattle.tcl_host.specs.declared.reply.HostReply.{HostReply}
use Rattle.tcl_host.specs.declared.request.Request.{Request}
use Rattle.tcl_isolation.specs.Laws.{DoesJust, DoesUntil, IsWithin, Suffices}
use Rattle.tcl_isolation.specs.Scripts as laws
use Rattle.tcl_isolation.specs.Visits.{DroppedVisit, IsBelowTheTop, WatchedVisit, visit}
use Rattle.tcl_isolation.proofs.Dropping as drops
use Rattle.tcl_isolation.proofs.Dropping.{steps_until}
use Rattle.tcl_isolation.proofs.Hosts.{host_untouched}
use Rattle.tcl_isolation.proofs.Safe as safe
use Rattle.tcl_isolation.proofs.Untouching.{rest_untouched}
use Rattle.tcl_isolation.proofs.Until.{does_until}
use Rattle.tcl_isolation.proofs.Watching as watching
use Rattle.tcl_run.specs.Language.{language}
use Rattle.tcl_language.specs.Safety.{plain}
use Rattle.tcl_run.specs.Outsides.{hosted}
use Rattle.tcl_text.specs.declared.integer.Integers.{Integers}
use Rattle.tcl_tree.specs.Own.{Own}
use Rattle.tcl_tree.specs.TreeOf.{marks_of, tree_of}
use Rattle.tcl_tree.specs.declared.tree.Tree.{Tree as Table}
use Rattle.tcl_recorder.specs.Records.{RecordView}
use Rattle.tcl_replay.specs.Watched.{AsksTheHostNothing, Counts, CountStaysWithin, IsRecord, IsRecorded, LeavesTheOutside, IsDeletion, LimitsStay, Reacts, ReactsSo, ReactsToDrop, ReactsUntil, watching}
use Rattle.tcl_replay.proofs.Below.{below_at, below_same, rest_back}

module _ {S : Type 0} (step : S → Request → HostReply → S → Type 0) (old : Table) (o : S) (path : Path) (script : Text) (limit : ℕ) (c : Path) (r : RecordView) (new : Table) (z : S) (e : End) where
  abbrev pub One : Type 0
  One = IsRecord step (watching old o path script limit c) r new z e

  abbrev style : Integers
  style = (marks_of old).integers

  -- the tree with the limit of the run
  abbrev T0 : Tree Own
  T0 = limited limit (tree_of old)

  abbrev pub run_of : One → IsRecorded step (watching old o path script limit c) r.crossings new z e
  run_of w = w.1.0

  pub visited : (w : One) → WatchedVisit (hosted step) (language style) T0 o path (Eval script) c r.crossings (run_of w).during z (run_of w).reply
  visited w = record { events = (run_of w).events; visits = (run_of w).visits; outside = (run_of w).outside; recorded = (run_of w).recorded; spared = w.1.1 }

  pub at_first : IsBelowTheTop c → at T0 c ≡ at (tree_of old) c
  at_first f = below_at c (tree_of old) (Some (root_count old + limit)) f

  same_first : IsBelowTheTop c → T0 c ≡ tree_of old c
  same_first f = below_same c (tree_of old) (Some (root_count old + limit)) f

  pub at_last : (w : One) → IsBelowTheTop c → at (tree_of new) c ≡ at (run_of w).during c
  at_last w f = ap (λ (U : Tree Own). at U c) (run_of w).after ∙ below_at c (run_of w).during (root_limit old) f

  same_last : (w : One) → IsBelowTheTop c → tree_of new c ≡ (run_of w).during c
  same_last w f = ap (λ (U : Tree Own). U c) (run_of w).after ∙ below_same c (run_of w).during (root_limit old) f

  pub stood : (w : One) → IsBelowTheTop c → T0 c ≡ Some (run_of w).node
  stood w f = same_first f ∙ (run_of w).stood

  enough : (w : One) (m : ℕ) → IsBelowTheTop c → Suffices m (tree_of old c) (tree_of new c) → Suffices m (T0 c) ((run_of w).during c)
  enough w m f le = subst (λ (x : Option (Node Own)). Suffices m x ((run_of w).during c)) (sym (same_first f)) (subst (λ (x : Option (Node Own)). Suffices m (tree_of old c) x) (same_last w f) le)

  pub reacts : One → Reacts old c r.crossings new
  reacts w f u m le =
      let h : React (language style) (at T0 c) (moves_of r.crossings) m (outcome_of r.crossings Finished) (outs_of r.crossings) (at (run_of w).during c) =
      watching.reacts (hosted step) (language style) T0 (run_of w).during o z path (Eval script) c r.crossings (run_of w).reply (visited w) (run_of w).node m f (stood w f) u (enough w m f le) in
      subst (λ (A : Tree Own). React (language style) A (moves_of r.crossings) m (outcome_of r.crossings Finished) (outs_of r.crossings) (at (tree_of new) c)) (at_first f)
      (subst (λ (B : Tree Own). React (language style) (at T0 c) (moves_of r.crossings) m (outcome_of r.crossings Finished) (outs_of r.crossings) B) (sym (at_last w f)) h)

  pub reacts_so : One → ReactsSo old c r.crossings new
  reacts_so w f u m le x told W re =
      let h : (x ≡ outcome_of r.crossings Finished) × (told ≡ outs_of r.crossings) × (W ≡ at (run_of w).during c) =
      watching.only (hosted step) (language style) T0 (run_of w).during o z path (Eval script) c r.crossings (run_of w).reply (visited w) (run_of w).node m x told W f (stood w f) u (enough w m f le)
      (subst (λ (A : Tree Own). React (language style) A (moves_of r.crossings) m x told W) (sym (at_first f)) re) in
      (h.0, h.1, h.2 ∙ sym (at_last w f))

  pub reacts_until : One → ReactsUntil old c r.crossings new
  reacts_until w f early late whole u m le =
      subst (λ (A : Tree Own). DoesUntil (language style) A early late m) (at_first f)
      (does_until (hosted step) (language style) T0 (run_of w).during o z path (Eval script) c r.crossings (run_of w).reply (run_of w).node m (visited w) f (stood w f) (enough w m f le) early late whole u)

  -- ## Where it was deleted

  abbrev Cut_off : Type 0
  Cut_off = IsDeletion step (watching old o path script limit c) r new z e

  dropped : (d : Cut_off) → DroppedVisit (hosted step) (language style) T0 o path (Eval script) c r.crossings d.run.during z d.run.reply
  dropped d = record {
    events = d.run.events;
    visits = d.run.visits;
    outside = d.run.outside;
    first = d.first;
    dropped = d.dropped;
    below = d.below;
    last = d.last;
    parts = d.parts;
    falls = d.falls;
    spared = d.spared;
    recorded = d.recorded;
  }

  -- no more steps are made there until then than in the whole run
  few_steps : (d : Cut_off) → steps_of (view c d.first) ≤ limit
  few_steps d =
      let whole : steps_of d.run.whole.whole.tape ≤ limit = steps (language style) (tree_of old) (tree_of new) path script limit d.run.whole.replies (ending_of e) d.run.whole.outs d.run.whole.whole in
      let tape : d.run.whole.whole.tape ≡ d.first ++ event d.dropped Dropped ∷ d.last = d.run.taped ∙ d.parts in
      steps_until c d.first (event d.dropped Dropped ∷ d.last) limit (subst (λ τ. steps_of τ ≤ limit) tape whole)

  pub reacts_to_drop : Cut_off → ReactsToDrop step (watching old o path script limit c) r new z e
  unfolding dropped
  reacts_to_drop d f u m le =
      let most : steps_of (view c d.first) ≤ limit = few_steps d in
      let enough_steps : steps_of (view c d.first) ≤ m = omega arith in
      let h = drops.reacts_to_drop (hosted step) (language style) T0 d.run.during o z path (Eval script) c r.crossings d.run.reply d.run.node m (dropped d) f (same_first f ∙ d.run.stood) u enough_steps in
      (d, h.0, h.1, subst (λ (A : Tree Own). DoesJust (language style) A (moves_of r.crossings) m h.0 (outs_of r.crossings) (at (after d.first T0) c)) (at_first f) h.2)

  pub leaves : One → LeavesTheOutside old o path c r.crossings new z
  leaves w u there f =
      let v : WatchedVisit (hosted step) (language style) T0 o (c ++ u) (Eval script) c r.crossings (run_of w).during z (run_of w).reply =
      subst (λ (t : Path). WatchedVisit (hosted step) (language style) T0 o t (Eval script) c r.crossings (run_of w).during z (run_of w).reply) there (visited w) in
      let q : rest (run_of w).during c ≡ rest T0 c = rest_untouched (hosted step) (language style) T0 (run_of w).during o z u (Eval script) c r.crossings (run_of w).reply v f in (
        ap (λ (U : Tree Own). rest U c) (run_of w).after ∙ rest_back c (tree_of old) (run_of w).during (Some (root_count old + limit)) q,
        host_untouched step (language style) T0 (run_of w).during o z u (Eval script) c r.crossings (run_of w).reply v f,
      )

  safe_trees : IsSafeBelow T0
  safe_trees = (orderly_relimited (Some (root_count old + limit)) (tree_of old) (orderly old)).safe

  safe_first : IsBelowTheTop c → IsSafeAt (tree_of old) c → IsSafeAt T0 c
  safe_first f a = (a.0, same_first f ∙ a.1, a.2)

  pub asks_nothing : laws.AsksTheHostNothing (hosted step) → One → AsksTheHostNothing old c r.crossings
  asks_nothing law w f a p m =
      law style T0 (run_of w).during o z path (Eval script) c r.crossings (run_of w).reply (visited w) f safe_trees (safe_first f a) (subst (ArePlain plain) (sym (at_first f)) p) m

  pub count_rises : (w : One) → IsBelowTheTop c → count_at (tree_of new c) ≡ count_at (tree_of old c) + steps_of (view c (visit path (Eval script) (run_of w).events (run_of w).reply))
  unfolding visited
  count_rises w f =
      let h : count_at ((run_of w).during c) ≡ (run_of w).node.count + steps_of (view c (visit path (Eval script) (run_of w).events (run_of w).reply)) =
      safe.counts (hosted step) (language style) T0 (run_of w).during o z path (Eval script) c r.crossings (run_of w).reply (visited w) (run_of w).node f (stood w f) in
      ap count_at (same_last w f) ∙ h ∙ ap (λ (x : Option (Node Own)). count_at x + steps_of (view c (visit path (Eval script) (run_of w).events (run_of w).reply))) (sym (run_of w).stood)

  pub counts : One → Counts step (watching old o path script limit c) r new z e
  counts w f = (run_of w, w.1.1, count_rises w f)

  own_limit : (w : One) (l : ℕ) → limit_at (tree_of old c) ≡ Some l → (run_of w).node.limit ≡ Some l
  own_limit w l at_limit = ap limit_at (sym (run_of w).stood) ∙ at_limit

  own_count : (w : One) (b : ℕ) → count_at (tree_of old c) ≤ b → (run_of w).node.count ≤ b
  own_count w b nb = subst (λ (x : Option (Node Own)). count_at x ≤ b) (run_of w).stood nb

  finally : (w : One) (l b : ℕ) → IsBelowTheTop c → IsWithin ((run_of w).during c) l b → IsWithin (tree_of new c) l b
  finally w l b f h = subst (λ (x : Option (Node Own)). IsWithin x l b) (sym (same_last w f)) h

  pub stays_within : laws.ScriptsStayWithin (hosted step) → One → CountStaysWithin old c r.crossings new
  stays_within law w f l b at_limit low lb nb =
      finally w l b f (law style T0 (run_of w).during o z path (Eval script) c r.crossings (run_of w).reply (run_of w).node l b (visited w) f (stood w f) (own_limit w l at_limit) low lb (own_count w b nb))

  first_below : IsBelowTheTop c → (q : Path) → T0 (c ++ q) ≡ tree_of old (c ++ q)
  first_below f q = ap (λ (U : Tree Own). U q) (at_first f)

  last_below : (w : One) → IsBelowTheTop c → (q : Path) → tree_of new (c ++ q) ≡ (run_of w).during (c ++ q)
  last_below w f q = ap (λ (U : Tree Own). U q) (at_last w f)

  pub limits_stay : laws.LimitsStay (hosted step) → One → LimitsStay step (watching old o path script limit c) r new z e
  unfolding visited
  limits_stay law w f a = (
    λ u n is.
        let m = law.watched style T0 (run_of w).during o z path (Eval script) c r.crossings (run_of w).reply n (visited w) f safe_trees (safe_first f a) (same_first f ∙ is) u in
        (m.0, same_last w f ∙ m.1, m.2, m.3),
    (
      run_of w,
      w.1.1,
      λ q u.
          let h = law.below style T0 (run_of w).during o z path (Eval script) c r.crossings (run_of w).reply q (visited w) f safe_trees (safe_first f a) u in (
            subst (λ (x : Option (Node Own)). AsLimited x (tree_of new (c ++ q))) (first_below f q) (subst (λ (x : Option (Node Own)). AsLimited (T0 (c ++ q)) x) (sym (last_below w f q)) h.0),
            λ standing n is. let m = h.1 n (first_below f q ∙ is) standing in (m.0, last_below w f q ∙ m.1, m.2, m.3),
          ),
    ),
  )
