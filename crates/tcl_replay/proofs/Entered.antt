-- A run with a recorder, and the run without it.
use Rattle.std.proofs.Common.{◌≡◌, ◌∙◌, ℕ, ◌+◌, true, List, [], ◌∷◌, ◌++◌, None, Some, sym, ap, subst}
use Rattle.std.specs.Prelude.{Result, Ok, Err, IfOk, is_some}
use Rattle.tcl_core.specs.Endings.{Reply}
use Rattle.tcl_core.specs.Entries.Entry.{Eval}
use Rattle.tcl_core.specs.Lives.{End as Ending, limited}
use Rattle.tcl_core.specs.Paths.{Path, Text}
use Rattle.tcl_core.specs.Runs.{Runs}
use Rattle.tcl_core.specs.Programs.{Wait}
use Rattle.tcl_core.specs.Execution.{Chain, Crossings, before, event}
use Rattle.tcl_core.specs.Trees.{Event, Tree, Node}
use Rattle.tcl_core.specs.Trees.What.{In, Done}
use Rattle.tcl_core.proofs.Following.{ahead-all, nothing}
use Rattle.tcl_core.proofs.PathLaws.{not_both, Some-inj}
use Rattle.tcl_core.proofs.RuleLaws.{derived_runs}
use Rattle.tcl_host.specs.declared.reply.HostReply.{HostReply}
use Rattle.tcl_host.specs.declared.request.Request.{Request}
use Rattle.tcl_run_laws.specs.Language.{leaves_steps}
use Rattle.tcl_run_laws.specs.Replies.{Belongs}
use Rattle.tcl_run_laws.proofs.Limiting.{language_keeps_tops}
use Rattle.tcl_run_laws.proofs.Taping.{Taped}
use Rattle.tcl_run_laws.proofs.HostedWholes.{WholeTape, whole_tape}
use Rattle.tcl_run.specs.Language.{language}
use Rattle.tcl_language.specs.Table.{serve}
use Rattle.tcl_run.specs.Outsides.{hosted}
use Rattle.tcl_run.specs.Runs.{Comes}
use Rattle.tcl_run.proofs.Steady.{stands, still_stands}
use Rattle.tcl_text.specs.declared.integer.Integers.{Integers}
use Rattle.tcl_tree.specs.Own.{Own}
use Rattle.tcl_tree.specs.TreeOf.{tree_of, marks_of}
use Rattle.tcl_tree.specs.declared.tree.Tree.{Tree as Table}
use Rattle.tcl_tree.proofs.CoreLemmas.{top_there}
use Rattle.tcl_eval.specs.Running.{IsOpenRun, IsUncut, ending_of, ran_of, root_count, unfit}
use Rattle.tcl_eval.specs.declared.running.End.{End}
use Rattle.tcl_eval.specs.declared.running.OpenEnd.{OpenEnd}
use Rattle.tcl_eval.specs.declared.running.OpenEnd.TheVariants as open_end
use Rattle.tcl_eval.specs.declared.running.Refused.{Refused}
use Rattle.tcl_recorder.specs.Laws.{IsWatched, KeepsAll, visit}
use Rattle.tcl_recorder.specs.Recording.{Keeps, noted, recorded}
use Rattle.tcl_recorder.specs.declared.recorder.Recorder.{Recorder}
use Rattle.tcl_recorder.proofs.Meeting.{AreMet, met_front, visit_met}
use Rattle.tcl_recorder.proofs.Visits.{fate_entry, kept_entry, told_end, visits}
use Rattle.tcl_recorder.proofs.Watched.{step as recorder_step, unwatched, watched}
use Rattle.tcl_replay.specs.Watched.{IsEntryRun}
use Rattle.tcl_replay.proofs.Before.{fit_there}

-- a recorder goes by steps of the host that it holds
along : {S : Type 0} (step : S → Request → HostReply → S → Type 0) (T : Tree Own) (o : Recorder S) (s : Wait) (ev : Event Own) (u : Recorder S) → Crossings (recorded (hosted step)) T o s ev u → Crossings (hosted step) T o.outside s ev u.outside
along step T o s ev u g = (recorder_step (hosted step) T o s ev u g).outside

module _ {S : Type 0} (step : S → Request → HostReply → S → Type 0) (old : Table) (o : Recorder S) (path : Path) (script : Text) (limit : ℕ) (new : Table) (z : Recorder S) where
  abbrev style : Integers
  style = (marks_of old).integers

  -- the tree with the limit of the run
  abbrev T0 : Tree Own
  T0 = limited limit (tree_of old)

  abbrev first : Event Own
  first = event path (In None (Eval script))

  abbrev last : Reply → Event Own
  last r = event path (Done None r)

  abbrev Opened : OpenEnd → Type 0
  Opened e = IsOpenRun (recorded (hosted step)) old (noted o first) path script (root_count old + limit) new z e

  -- who stands at the path
  here : is_some (tree_of old path) ≡ true → (n : Node Own) × (tree_of old path ≡ Some n)
  here there = stands (tree_of old path) there

  here_too : is_some (tree_of old path) ≡ true → (n : Node Own) × (T0 path ≡ Some n)
  here_too there = let n = here there in still_stands (tree_of old) (Some (root_count old + limit)) path n.0 n.1

  abbrev Wholly : (e : OpenEnd) → Opened e → Type 0
  Wholly e run = WholeTape step (Crossings (recorded (hosted step))) (λ (u : Recorder S). u.outside) (language style) (tree_of old) path script limit (noted o first) run.during run.between run.reply

  wholly : (e : OpenEnd) → is_some (tree_of old path) ≡ true → (run : Opened e) → Wholly e run
  wholly e there run =
      let n = here there in
      whole_tape step (Crossings (recorded (hosted step))) (λ (u : Recorder S). u.outside) (along step) leaves_steps (language style) (tree_of old) run.during (noted o first) run.between path script limit run.reply n.0
      (language_keeps_tops style) (stands (tree_of old []) (top_there old)) n.1 run.runs

  -- what is recorded over that tape
  watched_so : (e : OpenEnd) (run : Opened e) (w : Wholly e run) → IsWatched (hosted step) [] T0 (noted o first) w.says.events [] run.during run.between
  watched_so e run w = watched (hosted step) [] [] T0 run.during (noted o first) run.between w.says.events w.outside

  plain : (e : OpenEnd) (run : Opened e) → Comes (hosted step) (language style) T0 o.outside path (serve style (Eval script)) run.during z.outside run.reply
  plain e run =
      subst (λ (u : S). Comes (hosted step) (language style) T0 o.outside path (serve style (Eval script)) run.during u run.reply) (sym run.told.outside)
      (unwatched (hosted step) (language style) T0 run.during (noted o first) run.between path (serve style (Eval script)) run.reply run.runs)

  entry_run : (e : End) → is_some (tree_of old path) ≡ true → Opened (open_end.Ran e) → IsEntryRun step old o path script limit new z e
  entry_run e there run =
      let w = wholly (open_end.Ran e) there run in
      let n = here_too there in
      let all = watched_so (open_end.Ran e) run w in
      let ends : Keeps run.during run.between (last run.reply) z = run.told.keeps (run.told.ends tt) in
      let kept : KeepsAll T0 (noted o first) w.says.events run.between = all.keeps ends.whole in
      let τ : List (Event Own) = w.says.events in
      let seen = visits (Taped (Crossings (recorded (hosted step)))) (language style) path (Eval script) n.0 n.1 w.says in
      let met_all : AreMet T0 (visit path (Eval script) τ run.reply) = visit_met (language style) (before T0 (visit path (Eval script) τ run.reply)) path (Eval script) (before run.during []) run.reply seen tt in
      let met_within : AreMet T0 τ = met_front T0 τ (last run.reply ∷ []) met_all.1 in
      let same : w.whole.ending ≡ ending_of e = Some-inj w.whole.ending (sym w.whole.ends ∙ run.ends) in
      record {
        during = run.during;
        reply = run.reply;
        entry = record {
          events = τ;
          visits = seen;
          outside = subst (λ (u : S). Chain (Crossings (hosted step)) [] T0 o.outside τ [] run.during u) (sym run.told.outside) all.outside;
          kept = kept_entry T0 o.kept run.between.kept z.kept o.deleted run.between.deleted path (Eval script) τ run.reply met_within kept.kept kept.fate (ends.kept ∙ told_end run.between.deleted run.between.kept run.during path run.reply);
          fate = ends.fate ∙ fate_entry o.kept o.deleted run.between.deleted path (Eval script) τ run.reply kept.fate;
        };
        runs = subst (λ v. Runs (language style) v path ((language style).entry (Eval script)) (before run.during []) (Some run.reply)) (ahead-all T0 τ) (derived_runs (language style) (w.says.runs nothing));
        run = record { during = run.during; reply = run.reply; runs = plain (open_end.Ran e) run; after = run.after; ends = run.ends };
        after = run.after;
        ends = run.ends;
        whole = record {
          replies = w.whole.replies;
          outs = w.whole.outs;
          whole = record {
            tape = w.whole.whole.tape;
            last = w.whole.whole.last;
            reply = w.whole.whole.reply;
            run = w.whole.whole.run;
            all_read = w.whole.whole.all_read;
            all_done = w.whole.whole.all_done;
            ends = w.whole.whole.ends ∙ ap (λ (x : Ending). Some x) same;
            told = w.whole.whole.told;
            left = run.after ∙ w.whole.whole.left;
          };
          belongs = subst (λ (u : S). Belongs step o.outside w.whole.outs w.whole.replies u) (sym run.told.outside) w.whole.belongs;
        };
        taped = w.taped;
      }

  pub if_entry : (r : Result OpenEnd Refused) → unfit old path script limit ≡ None → IfOk r (IsOpenRun (recorded (hosted step)) old (noted o (event path (In None (Eval script)))) path script (root_count old + limit) new z) →
      IfOk (ran_of r) (IsEntryRun step old o path script limit new z)
  if_entry (Ok (open_end.Ran e)) fit run = entry_run e (fit_there old path script limit fit) run
  if_entry (Ok open_end.CutOff) fit run = tt
  if_entry (Err f) fit run = tt

  -- the host that it holds ends no run
  pub is_uncut : (r : Result OpenEnd Refused) → unfit old path script limit ≡ None → IfOk r (IsOpenRun (recorded (hosted step)) old (noted o (event path (In None (Eval script)))) path script (root_count old + limit) new z) → IsUncut r
  is_uncut (Ok (open_end.Ran e)) fit run = tt
  is_uncut (Ok open_end.CutOff) fit run = let w = wholly open_end.CutOff (fit_there old path script limit fit) run in not_both run.ends w.whole.ends
  is_uncut (Err f) fit run = tt
