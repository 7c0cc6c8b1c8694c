-- What an evaluation that is watched answers.
use Rattle.std.proofs.Common.{◌≡◌, ◌∙◌, ℕ, ◌+◌, Bool, true, false, List, None, refl, sym, ap, subst}
use Rattle.std.specs.Prelude.{Result, Ok, Err, IfOk, IfErr, IsErrOf, is_some}
use Rattle.tcl_core.specs.Entries.Entry.{Eval}
use Rattle.tcl_core.specs.Laws.{IsSpared}
use Rattle.tcl_core.specs.Paths.{Path, Text}
use Rattle.tcl_core.specs.Trees.{Event}
use Rattle.tcl_core.proofs.Stops.{stopping}
use Rattle.tcl_eval.specs.Running.{IsRun, IsWhole, root_count}
use Rattle.tcl_eval.specs.declared.running.End.{End}
use Rattle.tcl_eval.specs.declared.running.Refused.{Refused}
use Rattle.tcl_eval.specs.declared.running.Refused.TheVariants as refused
use Rattle.tcl_host.specs.declared.reply.HostReply.{HostReply}
use Rattle.tcl_host.specs.declared.request.Request.{Request}
use Rattle.tcl_isolation.specs.Visits.{visit}
use Rattle.tcl_run.specs.Language.{language}
use Rattle.tcl_run.specs.Outsides.{hosted}
use Rattle.tcl_run.proofs.Steady.{stands}
use Rattle.tcl_tree.specs.Own.{Own}
use Rattle.tcl_tree.specs.TreeOf.{marks_of, tree_of}
use Rattle.tcl_tree.specs.declared.tree.Tree.{Tree as Table}
use Rattle.tcl_recorder.specs.Boundary.{boundary}
use Rattle.tcl_recorder.specs.Records.{RecordView}
use Rattle.tcl_recorder.specs.Recording.{while_there}
use Rattle.tcl_recorder.specs.declared.recorder.Recorder.{Recorder}
use Rattle.tcl_recorder.proofs.BoundaryLaws.{boundary_drop}
use Rattle.tcl_recorder.proofs.Fates as fates
use Rattle.tcl_recorder.proofs.Fates.{FirstDrop}
use Rattle.tcl_replay.specs.Watched.{IfDeleted, IfEnds, IfRefused, IsDeletion, IsEntryRun, IsRecord, IsRecorded, Stops, Watches, answer_if, answer_of, recorder_of, watching}
use Rattle.tcl_replay.specs.declared.watching.Deletion.{Deletion}
use Rattle.tcl_replay.specs.declared.watching.Unwatched.{Unwatched}
use Rattle.tcl_replay.specs.declared.watching.Unwatched.TheVariants as unwatched
use Rattle.tcl_replay.proofs.Stopped.{obeys_entry}
use Rattle.tcl_replay.proofs.Unfinished.{Lost, not_begun}

-- a recorder with these, from whose record nothing is missing
abbrev pub as_whole : {S : Type 0} → S → RecordView → Bool → Recorder S
as_whole o kept deleted = record { outside = o; kept = kept; deleted = deleted; incomplete = false }

-- what holds whatever the end is, where the run came to one
pub ends_so : (ended : Result End Refused) (kept : RecordView) (deleted : Bool) (P : Type 0) → IfOk ended (λ _. P) → IfEnds (answer_of ended kept deleted) (λ _. P)
ends_so (Ok e) kept true P p = p
ends_so (Ok e) kept false P p = p
ends_so (Err f) kept deleted P p = tt

module _ {S : Type 0} (step : S → Request → HostReply → S → Type 0) (old : Table) (o : S) (path : Path) (script : Text) (limit : ℕ) (watched : Path) (new : Table) (z : S) where
  abbrev ended_with : RecordView → Bool → Recorder S
  ended_with kept deleted = as_whole z kept deleted

  abbrev Ran : RecordView → Bool → End → Type 0
  Ran kept deleted e = IsEntryRun step old (recorder_of o watched) path script limit new (ended_with kept deleted) e

  no_refusal : (P : Refused → Type 0) (deleted : Bool) (e : End) (kept : RecordView) → IfRefused (answer_if deleted e kept) P
  no_refusal P true e kept = tt
  no_refusal P false e kept = tt

  -- it was given up on its way
  abbrev pub Given_up : Type 0
  Given_up = Lost step old path script (root_count old + limit) o z

  ended_so : (deleted : Bool) (e : End) (kept : RecordView) → Ran kept deleted e → IfEnds (answer_if deleted e kept) (λ x. (k : RecordView) × (d : Bool) × (answer_if deleted e kept ≡ answer_if d x k) × Ran k d x)
  ended_so true e kept run = (kept, true, refl, run)
  ended_so false e kept run = (kept, false, refl, run)

  pub watches : (ended : Result End Refused) (kept : RecordView) (deleted : Bool) → IfErr ended (λ f. f ≡ refused.Memory) → (IsErrOf ended refused.Memory → (marks_of new).broken ≡ true) → IfErr ended (λ f. Given_up) → IfOk ended (Ran kept deleted) →
      Watches step (watching old o path script limit watched) new z (answer_of ended kept deleted)
  watches (Ok e) kept deleted m b g run = record {
    memory = no_refusal (λ f. (f ≡ refused.Memory) × ((marks_of new).broken ≡ true)) deleted e kept;
    given_up = no_refusal (λ f. Given_up) deleted e kept;
    made = ended_so deleted e kept run;
  }
  watches (Err f) kept deleted m b g run = record { memory = (m, b (ap (λ (x : Refused). Err x) m)); given_up = g; made = tt }

  -- memory was wanted before anything was done
  pub wants : (marks_of new).broken ≡ true → z ≡ o → Watches step (watching old o path script limit watched) new z (Err (unwatched.Refused refused.Memory))
  wants b same = record { memory = (refl, b); given_up = subst (λ (u : S). Lost step old path script (root_count old + limit) o u) (sym same) (not_begun step old path script (root_count old + limit) o); made = tt }

  -- what is missing from the record is nothing
  pub run_so : (ended : Result End Refused) (x : Recorder S) (u : Recorder S) → IfOk ended (IsEntryRun step old x path script limit new u) →
      IfOk ended (IsEntryRun step old x path script limit new (as_whole u.outside u.kept u.deleted))
  run_so (Err f) x u run = tt
  run_so (Ok e) x u run = record {
    during = run.during;
    reply = run.reply;
    entry = record { events = run.entry.events; visits = run.entry.visits; outside = run.entry.outside; kept = run.entry.kept; fate = run.entry.fate };
    runs = run.runs;
    run = run.run;
    after = run.after;
    ends = run.ends;
    whole = run.whole;
    taped = run.taped;
  }

  pub runs : (result : Result (End × RecordView) Unwatched) → Watches step (watching old o path script limit watched) new z result → IfEnds result (IsRun (hosted step) old o path script (root_count old + limit) new z)
  runs (Ok r) w = w.made.3.run
  runs (Err (unwatched.Deleted d)) w = w.made.3.run
  runs (Err (unwatched.Refused f)) w = tt

  pub wholes : (result : Result (End × RecordView) Unwatched) → Watches step (watching old o path script limit watched) new z result → IfEnds result (IsWhole step old o path script limit new z)
  wholes (Ok r) w = w.made.3.whole
  wholes (Err (unwatched.Deleted d)) w = w.made.3.whole
  wholes (Err (unwatched.Refused f)) w = tt

  abbrev Recorded : List (Event Own) → End → Type 0
  Recorded crossings e = IsRecorded step (watching old o path script limit watched) crossings new z e

  -- all that happens in it
  abbrev taped : (kept : RecordView) (deleted : Bool) (e : End) → Ran kept deleted e → List (Event Own)
  taped kept deleted e run = visit path (Eval script) run.entry.events run.reply

  one_run : (kept : RecordView) (deleted : Bool) (e : End) → is_some (tree_of old watched) ≡ true → (run : Ran kept deleted e) → (crossings : List (Event Own)) → crossings ≡ boundary watched (taped kept deleted e run) → Recorded crossings e
  one_run kept deleted e there run crossings same =
      let n = stands (tree_of old watched) there in
      record {
        during = run.during;
        reply = run.reply;
        events = run.entry.events;
        visits = run.entry.visits;
        outside = run.entry.outside;
        recorded = same;
        node = n.0;
        stood = n.1;
        after = run.after;
        ends = run.ends;
        whole = run.whole;
        taped = run.taped;
      }

  its_crossings : (kept : RecordView) (deleted : Bool) (e : End) → (run : Ran kept deleted e) → kept.crossings ≡ boundary watched (while_there false watched (taped kept deleted e run))
  its_crossings kept deleted e run = ap (λ (k : RecordView). k.crossings) run.entry.kept

  is_spared : (kept : RecordView) (deleted : Bool) (e : End) → (run : Ran kept deleted e) → deleted ≡ false → IsSpared watched (taped kept deleted e run)
  is_spared kept deleted e run f = fates.spared watched (taped kept deleted e run) (sym run.entry.fate ∙ f)

  all_crossings : (kept : RecordView) (deleted : Bool) (e : End) → (run : Ran kept deleted e) → deleted ≡ false → kept.crossings ≡ boundary watched (taped kept deleted e run)
  all_crossings kept deleted e run f = its_crossings kept deleted e run ∙ ap (boundary watched) (fates.there_spared watched (taped kept deleted e run) (is_spared kept deleted e run f))

  its_record : (kept : RecordView) (deleted : Bool) (e : End) → is_some (tree_of old watched) ≡ true → Ran kept deleted e → deleted ≡ false → IsRecord step (watching old o path script limit watched) kept new z e
  unfolding one_run
  its_record kept deleted e there run f = (
    ap (λ (k : RecordView). k.watched) run.entry.kept,
    (one_run kept deleted e there run kept.crossings (all_crossings kept deleted e run f), is_spared kept deleted e run f, tt),
  )

  its_stops : (kept : RecordView) (deleted : Bool) (e : End) → is_some (tree_of old watched) ≡ true → Ran kept deleted e → deleted ≡ false → Stops step (watching old o path script limit watched) kept new z e
  unfolding one_run
  its_stops kept deleted e there run f = (
    one_run kept deleted e there run kept.crossings (all_crossings kept deleted e run f),
    is_spared kept deleted e run f,
    obeys_entry Own watched run.entry.events path path None None (Eval script) run.reply (stopping (language (marks_of old).integers) watched path _ _ _ _ run.runs refl),
  )

  its_deletion : (kept : RecordView) (deleted : Bool) (e : End) → is_some (tree_of old watched) ≡ true → Ran kept deleted e → deleted ≡ true → IsDeletion step (watching old o path script limit watched) kept new z e
  unfolding one_run
  its_deletion kept deleted e there run f =
      let tape : List (Event Own) = taped kept deleted e run in
      let drop : FirstDrop watched tape = fates.first_drop watched tape (sym run.entry.fate ∙ f) in
      record {
        crossings = boundary watched tape;
        run = one_run kept deleted e there run (boundary watched tape) refl;
        first = drop.first;
        dropped = drop.dropped;
        below = drop.below;
        last = drop.last;
        parts = drop.parts;
        falls = drop.falls;
        spared = drop.spared;
        watched = ap (λ (k : RecordView). k.watched) run.entry.kept;
        recorded = its_crossings kept deleted e run ∙ ap (boundary watched) (fates.there_drop watched tape drop) ∙ boundary_drop watched drop.first drop.dropped;
      }

  ok_is : (r : End × RecordView) (kept : RecordView) (deleted : Bool) → ◌≡◌ {A = Result (End × RecordView) Unwatched} (Ok r) (answer_if deleted r.0 kept) → (deleted ≡ false) × (kept ≡ r.1)
  ok_is r kept true e = absurd cc
  ok_is r kept false e = let f : r ≡ (r.0, kept) = cc in (refl, sym (ap (λ (x : End × RecordView). x.1) f))

  deleted_is : (d : Deletion) (kept : RecordView) (deleted : Bool) → ◌≡◌ {A = Result (End × RecordView) Unwatched} (Err (unwatched.Deleted d)) (answer_if deleted d.end kept) → (deleted ≡ true) × (kept ≡ d.until)
  deleted_is d kept true e = let f : ◌≡◌ {A = Deletion} d (record { end = d.end; until = kept }) = cc in (refl, sym (ap (λ (x : Deletion). x.until) f))
  deleted_is d kept false e = absurd cc

  pub records : (result : Result (End × RecordView) Unwatched) → is_some (tree_of old watched) ≡ true → Watches step (watching old o path script limit watched) new z result →
      IfOk result (λ r. IsRecord step (watching old o path script limit watched) r.1 new z r.0)
  records (Ok r) there w =
      let is = ok_is r w.made.0 w.made.1 w.made.2 in
      subst (λ (k : RecordView). IsRecord step (watching old o path script limit watched) k new z r.0) is.1 (its_record w.made.0 w.made.1 r.0 there w.made.3 is.0)
  records (Err f) there w = tt

  pub stops : (result : Result (End × RecordView) Unwatched) → is_some (tree_of old watched) ≡ true → Watches step (watching old o path script limit watched) new z result →
      IfOk result (λ r. Stops step (watching old o path script limit watched) r.1 new z r.0)
  stops (Ok r) there w =
      let is = ok_is r w.made.0 w.made.1 w.made.2 in
      subst (λ (k : RecordView). Stops step (watching old o path script limit watched) k new z r.0) is.1 (its_stops w.made.0 w.made.1 r.0 there w.made.3 is.0)
  stops (Err f) there w = tt

  pub deletions : (result : Result (End × RecordView) Unwatched) → is_some (tree_of old watched) ≡ true → Watches step (watching old o path script limit watched) new z result →
      IfDeleted result (λ d. IsDeletion step (watching old o path script limit watched) d.until new z d.end)
  deletions (Ok r) there w = tt
  deletions (Err (unwatched.Deleted d)) there w =
      let is = deleted_is d w.made.0 w.made.1 w.made.2 in
      subst (λ (k : RecordView). IsDeletion step (watching old o path script limit watched) k new z d.end) is.1 (its_deletion w.made.0 w.made.1 d.end there w.made.3 is.0)
  deletions (Err (unwatched.Refused f)) there w = tt

  -- what follows of a deletion
  pub follows_drop : (P : RecordView → End → Type 0) (result : Result (End × RecordView) Unwatched) → IfDeleted result (λ d. IsDeletion step (watching old o path script limit watched) d.until new z d.end) →
      ((r : RecordView) (e : End) → IsDeletion step (watching old o path script limit watched) r new z e → P r e) → IfDeleted result (λ d. P d.until d.end)
  follows_drop P (Ok r) w k = tt
  follows_drop P (Err (unwatched.Deleted d)) w k = k d.until d.end w
  follows_drop P (Err (unwatched.Refused f)) w k = tt

  -- what follows of a record
  pub follows : (P : RecordView → End → Type 0) (result : Result (End × RecordView) Unwatched) → IfOk result (λ r. IsRecord step (watching old o path script limit watched) r.1 new z r.0) →
      ((r : RecordView) (e : End) → IsRecord step (watching old o path script limit watched) r new z e → P r e) → IfOk result (λ r. P r.1 r.0)
  follows P (Ok r) w k = k r.1 r.0 w
  follows P (Err f) w k = tt
