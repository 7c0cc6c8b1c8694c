-- What an evaluation that is watched answers.
use Rattle.std.proofs.Common.{◌≡◌, ◌∙◌, ℕ, ◌+◌, Bool, true, false, List, [], None, Some, refl, sym, ap, subst}
use Rattle.std.specs.Prelude.{Result, Ok, Err, IfOk, IfErr, IsErrOf, is_some}
use Rattle.tcl_core.specs.Entries.Entry.{Eval}
use Rattle.tcl_core.specs.Execution.{Chain, Crossings, before, event}
use Rattle.tcl_core.specs.Laws.{IsSpared}
use Rattle.tcl_core.specs.Lives.{limited}
use Rattle.tcl_core.specs.Paths.{Path, Text}
use Rattle.tcl_core.specs.Runs.{Runs, Visits}
use Rattle.tcl_core.specs.Trees.{Event}
use Rattle.tcl_core.specs.Trees.What.{In}
use Rattle.tcl_eval.specs.Running.{IsOpenRun, root_count}
use Rattle.tcl_eval.specs.declared.running.OpenEnd.{OpenEnd}
use Rattle.tcl_eval.specs.declared.running.Refused.{Refused}
use Rattle.tcl_eval.specs.declared.running.Refused.TheVariants as refused
use Rattle.tcl_isolation.specs.Visits.{visit}
use Rattle.tcl_replay.proofs.OpenEntered.{entry, plain}
use Rattle.tcl_replay.proofs.OpenGivenUp.{Lost, not_begun}
use Rattle.tcl_replay.specs.OpenWatched.{IfDeleted, IfEnds, IfRefused, IsOpenDeletion, IsOpenRecord, IsOpenRecorded, Watches, answer_if, answer_of}
use Rattle.tcl_replay.specs.declared.open_watching.OpenDeletion.{OpenDeletion}
use Rattle.tcl_replay.specs.declared.open_watching.OpenUnwatched.{OpenUnwatched}
use Rattle.tcl_replay.specs.declared.open_watching.OpenUnwatched.TheVariants as unwatched
use Rattle.tcl_run.specs.Language.{language}
use Rattle.tcl_recorder.proofs.BoundaryLaws.{boundary_drop}
use Rattle.tcl_recorder.proofs.Fates as fates
use Rattle.tcl_recorder.proofs.Fates.{FirstDrop}
use Rattle.tcl_recorder.proofs.Visits.{end_noted}
use Rattle.tcl_recorder.specs.Boundary.{boundary}
use Rattle.tcl_recorder.specs.Recording.{after, fallen_after, noted, recorded, while_there}
use Rattle.tcl_recorder.specs.Records.{RecordView}
use Rattle.tcl_recorder.specs.declared.recorder.Recorder.{Recorder}
use Rattle.tcl_replay.specs.Watched.{recorder_of}
use Rattle.tcl_run.proofs.Steady.{stands}
use Rattle.tcl_run.specs.Outsides.{Going}
use Rattle.tcl_tree.specs.Own.{Own}
use Rattle.tcl_tree.specs.TreeOf.{marks_of, tree_of}
use Rattle.tcl_tree.specs.declared.tree.Tree.{Tree as Table}

-- what holds whatever the end is, where the run came to one
pub ends_so : (ended : Result OpenEnd Refused) (kept : RecordView) (deleted : Bool) (P : Type 0) → IfOk ended (λ _. P) → IfEnds (answer_of ended kept deleted) (λ _. P)
ends_so (Ok e) kept true P p = p
ends_so (Ok e) kept false P p = p
ends_so (Err f) kept deleted P p = tt

module _ {S : Type 0} (goes : Going S) (loses : S → S → Type 0) (old : Table) (o : S) (path : Path) (script : Text) (limit : ℕ) (watched : Path) (new : Table) (z : S) where
  abbrev ended_with : RecordView → Bool → Recorder S
  ended_with kept deleted = record { outside = z; kept = kept; deleted = deleted; incomplete = false }

  abbrev Ran : RecordView → Bool → OpenEnd → Type 0
  Ran kept deleted e = IsOpenRun (recorded goes) old (noted (recorder_of o watched) (event path (In None (Eval script)))) path script (root_count old + limit) new (ended_with kept deleted) e

  -- what is recorded of a run, with the entry and its end
  record WatchedEnd (kept : RecordView) (deleted : Bool) (e : OpenEnd) (run : Ran kept deleted e) (events : List (Event Own)) : Type 0 where
    pub visits : Visits (language (marks_of old).integers) (Runs (language (marks_of old).integers)) (before (limited limit (tree_of old)) (visit path (Eval script) events run.reply)) None path (Eval script) (before run.during []) (Some run.reply)
    pub outside : Chain (Crossings goes) [] (limited limit (tree_of old)) o events [] run.during run.between.outside
    pub record_is : kept ≡ after (record { watched = watched; crossings = [] }) (while_there false watched (visit path (Eval script) events run.reply))
    pub fate : deleted ≡ fallen_after false watched (visit path (Eval script) events run.reply)

  no_refusal : (P : Refused → Type 0) (deleted : Bool) (e : OpenEnd) (kept : RecordView) → IfRefused (answer_if deleted e kept) P
  no_refusal P true e kept = tt
  no_refusal P false e kept = tt

  ended_so : (deleted : Bool) (e : OpenEnd) (kept : RecordView) → Ran kept deleted e → IfEnds (answer_if deleted e kept) (λ x. (k : RecordView) × (d : Bool) × (answer_if deleted e kept ≡ answer_if d x k) × Ran k d x)
  ended_so true e kept run = (kept, true, refl, run)
  ended_so false e kept run = (kept, false, refl, run)

  abbrev Given_up : Type 0
  Given_up = Lost goes loses old path script (root_count old + limit) o z

  pub watches : (ended : Result OpenEnd Refused) (kept : RecordView) (deleted : Bool) → IfErr ended (λ f. f ≡ refused.Memory) → (IsErrOf ended refused.Memory → (marks_of new).broken ≡ true) → IfErr ended (λ f. Given_up) → IfOk ended (Ran kept deleted) →
      Watches goes loses old o path script limit watched new z (answer_of ended kept deleted)
  watches (Ok e) kept deleted m b g run = record {
    memory = no_refusal (λ f. (f ≡ refused.Memory) × ((marks_of new).broken ≡ true)) deleted e kept;
    given_up = no_refusal (λ f. Given_up) deleted e kept;
    made = ended_so deleted e kept run;
  }
  watches (Err f) kept deleted m b g run = record { memory = (m, b (ap (λ (x : Refused). Err x) m)); given_up = g; made = tt }

  -- memory was wanted before anything was done
  pub wants : (marks_of new).broken ≡ true → z ≡ o → Watches goes loses old o path script limit watched new z (Err (unwatched.Refused refused.Memory))
  wants b same = record { memory = (refl, b); given_up = subst (λ (u : S). Lost goes loses old path script (root_count old + limit) o u) (sym same) (not_begun goes loses old path script (root_count old + limit) o); made = tt }

  pub runs : (result : Result (OpenEnd × RecordView) OpenUnwatched) → Watches goes loses old o path script limit watched new z result → IfEnds result (IsOpenRun goes old o path script (root_count old + limit) new z)
  runs (Ok r) w = plain goes old (recorder_of o watched) path script limit new (ended_with w.made.0 w.made.1) r.0 w.made.3
  runs (Err (unwatched.Deleted d)) w = plain goes old (recorder_of o watched) path script limit new (ended_with w.made.0 w.made.1) d.end w.made.3
  runs (Err (unwatched.Refused f)) w = tt

  -- what is recorded of the entry, with its end
  kept_so : (kept : RecordView) (deleted : Bool) (e : OpenEnd) → (there : is_some (tree_of old path) ≡ true) → (run : Ran kept deleted e) →
      (events : List (Event Own)) × WatchedEnd kept deleted e run events
  kept_so kept deleted e there run =
      let w = entry goes old (recorder_of o watched) path script limit new (ended_with kept deleted) e there run in
      let told = run.told.keeps refl in (
        w.events,
        record {
          visits = w.visits;
          outside = w.outside;
          record_is = told.kept ∙ end_noted run.between.deleted run.between.kept run.during path run.reply ∙ w.kept;
          fate = told.fate ∙ w.fate;
        },
      )

  its_record : (kept : RecordView) (deleted : Bool) (e : OpenEnd) → is_some (tree_of old path) ≡ true → is_some (tree_of old watched) ≡ true → Ran kept deleted e → deleted ≡ false → IsOpenRecord goes old o path script limit watched kept new z e
  its_record kept deleted e there seen run f =
      let n = stands (tree_of old watched) seen in
      let w = kept_so kept deleted e there run in
      let tape : List (Event Own) = visit path (Eval script) w.0 run.reply in
      let spared : IsSpared watched tape = fates.spared watched tape (sym w.1.fate ∙ f) in (
        ap (λ (k : RecordView). k.watched) w.1.record_is,
        record {
          during = run.during;
          between = run.between.outside;
          reply = run.reply;
          visited = record {
            events = w.0;
            visits = w.1.visits;
            outside = w.1.outside;
            recorded = ap (λ (k : RecordView). k.crossings) w.1.record_is ∙ ap (boundary watched) (fates.there_spared watched tape spared);
            spared = spared;
          };
          told = run.told.outside;
          node = n.0;
          stood = n.1;
          after = run.after;
          ends = run.ends;
        },
      )

  its_deletion : (kept : RecordView) (deleted : Bool) (e : OpenEnd) → is_some (tree_of old path) ≡ true → is_some (tree_of old watched) ≡ true → Ran kept deleted e → deleted ≡ true → IsOpenDeletion goes old o path script limit watched kept new z e
  its_deletion kept deleted e there seen run f =
      let n = stands (tree_of old watched) seen in
      let w = kept_so kept deleted e there run in
      let tape : List (Event Own) = visit path (Eval script) w.0 run.reply in
      let drop : FirstDrop watched tape = fates.first_drop watched tape (sym w.1.fate ∙ f) in
      record {
        during = run.during;
        between = run.between.outside;
        reply = run.reply;
        visited = record {
          events = w.0;
          visits = w.1.visits;
          outside = w.1.outside;
          first = drop.first;
          dropped = drop.dropped;
          below = drop.below;
          last = drop.last;
          parts = drop.parts;
          falls = drop.falls;
          spared = drop.spared;
          recorded = ap (λ (k : RecordView). k.crossings) w.1.record_is ∙ ap (boundary watched) (fates.there_drop watched tape drop) ∙ boundary_drop watched drop.first drop.dropped;
        };
        told = run.told.outside;
        same = ap (λ (k : RecordView). k.watched) w.1.record_is;
        node = n.0;
        stood = n.1;
        after = run.after;
        ends = run.ends;
      }

  ok_is : (r : OpenEnd × RecordView) (kept : RecordView) (deleted : Bool) → ◌≡◌ {A = Result (OpenEnd × RecordView) OpenUnwatched} (Ok r) (answer_if deleted r.0 kept) → (deleted ≡ false) × (kept ≡ r.1)
  ok_is r kept true e = absurd cc
  ok_is r kept false e = let f : r ≡ (r.0, kept) = cc in (refl, sym (ap (λ (x : OpenEnd × RecordView). x.1) f))

  deleted_is : (d : OpenDeletion) (kept : RecordView) (deleted : Bool) → ◌≡◌ {A = Result (OpenEnd × RecordView) OpenUnwatched} (Err (unwatched.Deleted d)) (answer_if deleted d.end kept) → (deleted ≡ true) × (kept ≡ d.until)
  deleted_is d kept true e = let f : ◌≡◌ {A = OpenDeletion} d (record { end = d.end; until = kept }) = cc in (refl, sym (ap (λ (x : OpenDeletion). x.until) f))
  deleted_is d kept false e = absurd cc

  pub deletions : (result : Result (OpenEnd × RecordView) OpenUnwatched) → is_some (tree_of old path) ≡ true → is_some (tree_of old watched) ≡ true → Watches goes loses old o path script limit watched new z result →
      IfDeleted result (λ d. IsOpenDeletion goes old o path script limit watched d.until new z d.end)
  deletions (Ok r) there seen w = tt
  deletions (Err (unwatched.Deleted d)) there seen w =
      let is = deleted_is d w.made.0 w.made.1 w.made.2 in
      subst (λ (k : RecordView). IsOpenDeletion goes old o path script limit watched k new z d.end) is.1 (its_deletion w.made.0 w.made.1 d.end there seen w.made.3 is.0)
  deletions (Err (unwatched.Refused f)) there seen w = tt

  -- what follows of a deletion
  pub follows_drop : (P : RecordView → OpenEnd → Type 0) (result : Result (OpenEnd × RecordView) OpenUnwatched) → IfDeleted result (λ d. IsOpenDeletion goes old o path script limit watched d.until new z d.end) →
      ((r : RecordView) (e : OpenEnd) → IsOpenDeletion goes old o path script limit watched r new z e → P r e) → IfDeleted result (λ d. P d.until d.end)
  follows_drop P (Ok r) w k = tt
  follows_drop P (Err (unwatched.Deleted d)) w k = k d.until d.end w
  follows_drop P (Err (unwatched.Refused f)) w k = tt

  pub records : (result : Result (OpenEnd × RecordView) OpenUnwatched) → is_some (tree_of old path) ≡ true → is_some (tree_of old watched) ≡ true → Watches goes loses old o path script limit watched new z result →
      IfOk result (λ r. IsOpenRecord goes old o path script limit watched r.1 new z r.0)
  records (Ok r) there seen w =
      let is = ok_is r w.made.0 w.made.1 w.made.2 in
      subst (λ (k : RecordView). IsOpenRecord goes old o path script limit watched k new z r.0) is.1 (its_record w.made.0 w.made.1 r.0 there seen w.made.3 is.0)
  records (Err f) there seen w = tt

  -- what follows of a record
  pub follows : (P : RecordView → Type 0) (result : Result (OpenEnd × RecordView) OpenUnwatched) → IfOk result (λ r. IsOpenRecord goes old o path script limit watched r.1 new z r.0) →
      ((r : RecordView) (e : OpenEnd) → IsOpenRecorded goes old o path script limit watched r.crossings new z e → P r) → IfOk result (λ r. P r.1)
  follows P (Ok r) w k = k r.1 r.0 w.1
  follows P (Err f) w k = tt

-- the recorder at the end of a run, told of as one from which nothing is missing
abbrev pub as_whole : {S : Type 0} → S → RecordView → Bool → Recorder S
as_whole o k d = record { outside = o; kept = k; deleted = d; incomplete = false }

whole_is : {S : Type 0} (b : Bool) (o : S) (k : RecordView) (d : Bool) → b ≡ false → ◌≡◌ {A = Recorder S} (record { outside = o; kept = k; deleted = d; incomplete = b }) (as_whole o k d)
whole_is b o k d e = ap (λ x. record { outside = o; kept = k; deleted = d; incomplete = x }) e

pub run_so : {S : Type 0} (goes : Going S) (old : Table) (first : Recorder S) (path : Path) (script : Text) (most : ℕ) (new : Table) (ended : Result OpenEnd Refused) (made : Recorder S) →
    IfOk ended (λ end. IsOpenRun (recorded goes) old first path script most new made end) → IfOk ended (λ end. IsOpenRun (recorded goes) old first path script most new (as_whole made.outside made.kept made.deleted) end)
run_so goes old first path script most new (Ok e) made run =
    subst (λ (z : Recorder _). IsOpenRun (recorded goes) old first path script most new z e) (whole_is made.incomplete made.outside made.kept made.deleted (run.told.ends tt)) run
run_so goes old first path script most new (Err f) made run = tt
