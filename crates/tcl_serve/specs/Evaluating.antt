-- Evaluations with the client outside of the tree.
use Rattle.std.specs.Option.{unwrap_or}
use Rattle.std.specs.Prelude.{◌≡◌, ◌⊎◌, ℕ, ◌+◌, Bool, true, false, List, [], Option, Some, None}
use Rattle.std.specs.Prelude.{Result, Ok, Err, IfErr, IfNone, IfOk, IfSome, IsErrOf}
use Rattle.tcl_serve.specs.Clients.{IsOver, Serves}
use Rattle.tcl_serve.specs.Views.{ClientView}
use Rattle.tcl_core.specs.Endings.{Kind}
use Rattle.tcl_core.specs.Endings.Kind.{Full, Gone}
use Rattle.tcl_core.specs.Endings.Meter.{Count, Depth}
use Rattle.tcl_core.specs.Lives.{End}
use Rattle.tcl_core.specs.Lives.End.{Completed_as, Stopped, Exits}
use Rattle.tcl_core.specs.Paths.{Path, Text}
use Rattle.tcl_eval.specs.Running.{IsOpenRun, open_ending, root_count, unfit}
use Rattle.tcl_eval.specs.declared.running.OpenEnd.{OpenEnd}
use Rattle.tcl_eval.specs.declared.running.Refused.{Refused}
use Rattle.tcl_eval.specs.declared.running.Refused.TheVariants as why
use Rattle.tcl_flow.specs.declared.stop.StopKind.{StopKind}
use Rattle.tcl_flow.specs.declared.stop.StopKind.TheVariants as stop
use Rattle.tcl_functions.specs.Serving.{going, most_entries}
use Rattle.tcl_functions.specs.declared.serving.WithFunctions.{WithFunctions}
use Rattle.tcl_host.specs.MemoryHost.{respond}
use Rattle.tcl_host.specs.declared.memory.MemoryHost.{MemoryHost}
use Rattle.tcl_host.specs.declared.reply.HostReply.{HostReply}
use Rattle.tcl_host.specs.declared.request.Request.{Request}
use Rattle.tcl_replay.specs.OpenWatched.{IfDeleted, IfEnds, IsOpenDeletion, IsOpenRecord}
use Rattle.tcl_replay.specs.declared.open_watching.OpenUnwatched.{OpenUnwatched}
use Rattle.tcl_replay.specs.declared.open_watching.OpenUnwatched.TheVariants as unwatched
use Rattle.tcl_serve.specs.Messages.{Evaluation, steps}
use Rattle.tcl_serve.specs.declared.answers.Answer.{Answer}
use Rattle.tcl_serve.specs.declared.answers.Answer.TheVariants as answer
use Rattle.tcl_serve.specs.declared.answers.Ended.{Ended}
use Rattle.tcl_serve.specs.declared.answers.Ended.TheVariants as ended
use Rattle.tcl_serve.specs.declared.answers.Watched.{Watched}
use Rattle.tcl_serve.specs.declared.refusals.Refusal.{Refusal}
use Rattle.tcl_serve.specs.declared.refusals.Refusal.TheVariants as refusal
use Rattle.tcl_recorder.specs.Records.{RecordView}
use Rattle.tcl_replay.specs.Watched.{Reacts, unwatchable}
use Rattle.tcl_run.specs.Outsides.{Going}
use Rattle.tcl_serve.specs.Keeping.{lines_in}
use Rattle.tcl_serve.specs.Numbering.{Adds, IsKept}
use Rattle.tcl_serve.specs.declared.numbered.Numbered.{Numbered}
use Rattle.tcl_serve.specs.declared.served.ServedTree.{ServedTree}
use Rattle.tcl_tree.specs.TreeOf.{marks_of}
use Rattle.tcl_tree.specs.declared.tree.Tree.{Tree as Table}

-- ## The outside

-- the client and a host in memory
abbrev pub Both : Type 0
Both = WithFunctions ClientView MemoryHost

-- a step of the host
abbrev pub responds : MemoryHost → Request → HostReply → MemoryHost → Type 0
responds o q a z = respond o q ≡ (a, z)

-- The client answers the calls that leave the tree, and the host its requests; what is between two
-- interpreters of the tree leaves both as they are.
abbrev pub outside : Going Both
outside = going Serves responds

-- A run begins in the tree of a number: the client is told of the number, no call is open, and the
-- host of the tree stands outside.
pub record Begins (s : ServedTree) (c : ClientView) (number : ℕ) (both : Both) (t : ServedTree) :
    Type 0 where
  pub functions : both.functions ≡ record c {
    talk = record c.talk { tree = number; cut = false };
  }
  pub host : both.host ≡ s.host.host
  pub calls : both.calls.items ≡ []
  pub entries : both.entries ≡ most_entries
  pub exits : both.exits ≡ false
  pub tree : t.tree ≡ s.tree
  pub taken : t.host ≡ record s.host { host = t.host.host }

-- It is over: the client has answered what it awaited, and the tree has its host again.
pub record Comes (s : ServedTree) (both : Both) (t : ServedTree) (d : ClientView) : Type 0 where
  pub over : IsOver both.functions d
  pub host : t.host ≡ record s.host { host = both.host }

-- ## What is said of it

abbrev pub kind_of : Kind → StopKind
kind_of (Full Count) = stop.Count
kind_of (Full Depth) = stop.Depth
kind_of Gone = stop.Gone

-- how a run ended that the client cut off, or didn't
abbrev pub ended_as : Bool → Option End → Ended
ended_as true e = ended.Cut
ended_as false (Some (Completed_as c)) = ended.Completed c.code c.text
ended_as false (Some (Stopped m)) = ended.Stopped (kind_of m)
ended_as false (Some (Exits n)) = ended.Exited n
ended_as false None = ended.Cut

abbrev pub of_refused : Refused → Refusal
of_refused why.Memory = refusal.Breaks
of_refused why.Broken = refusal.Broken
of_refused why.NoInterpreter = refusal.Nobody
of_refused why.CountTooLarge = refusal.TooManySteps
of_refused why.TooLong = refusal.TooLong

-- of its end, or that memory was wanted to say it; or why there was none
abbrev pub Says : Bool → Result OpenEnd Refused → Result Answer Refusal → Type 0
Says cut (Ok e) r = (r ≡ Ok (answer.Ended (ended_as cut (open_ending e)))) ⊎
    (r ≡ Err refusal.Memory)
Says cut (Err u) r = r ≡ Err (of_refused u)

-- ## An evaluation

-- memory is wanted before it begins
pub record IsUnbegun (s : ServedTree) (c : ClientView) (t : ServedTree) (d : ClientView)
    (r : Result Answer Refusal) : Type 0 where
  pub served : t ≡ s
  pub client : d ≡ c
  pub says : r ≡ Err refusal.Memory

module _ (number : ℕ) (path : Path) (script : Text) (limit : ℕ) where
  -- A run of the script over the client and the host; or it is refused, and nothing changes.
  pub record Evaluated (s : ServedTree) (c : ClientView) (t : ServedTree) (d : ClientView)
      (r : Result Answer Refusal) : Type 0 where
    pub begun : Both
    pub before : ServedTree
    pub begins : Begins s c number begun before
    pub left : Both
    pub ran : Table
    pub run : Result OpenEnd Refused
    pub refused : IfSome (unfit before.tree path script limit) (λ u. run ≡ Err u)
    pub unchanged : IfSome (unfit before.tree path script limit)
        (λ _. (ran ≡ before.tree) × (left ≡ begun))
    pub memory : IfNone (unfit before.tree path script limit)
        (IfErr run (λ u. u ≡ why.Memory))
    pub broken : IsErrOf run why.Memory → (marks_of ran).broken ≡ true
    pub marks : IfOk run (λ _. marks_of ran ≡ marks_of before.tree)
    pub runs : IfOk run (λ end. IsOpenRun outside before.tree begun path script
        (root_count before.tree + limit) ran left end)
    pub tree : t.tree ≡ ran
    pub comes : Comes before left t d
    pub says : Says d.talk.cut run r

  -- or it doesn't begin
  abbrev pub Evaluates : ServedTree → ClientView → ServedTree → ClientView →
      Result Answer Refusal → Type 0
  Evaluates s c t d r = Evaluated s c t d r ⊎ IsUnbegun s c t d r

-- how many steps it may make
abbrev pub limit_of : Evaluation → ℕ
limit_of e = unwrap_or e.limit steps

abbrev pub EvaluatesFor : Evaluation → ServedTree → ClientView → ServedTree → ClientView →
    Result Answer Refusal → Type 0
EvaluatesFor e = Evaluates e.place.tree e.place.path e.script (limit_of e)

-- ## A watched evaluation

-- A record is kept and said; or why there is none, or that memory was wanted.
pub record SaysWatched (cut : Bool) (e : OpenEnd) (kept : RecordView) (old : Numbered RecordView)
    (w : Watched) (new : Numbered RecordView) : Type 0 where
  pub ended : w.ended ≡ ended_as cut (open_ending e)
  pub lines : w.lines.items ≡ lines_in kept.crossings
  pub adds : Adds old w.number kept new

abbrev pub SaysAnswer : Bool → OpenEnd → RecordView → Numbered RecordView →
    Result Answer Refusal → Numbered RecordView → Type 0
SaysAnswer cut e kept old (Ok (answer.Watched w)) new = SaysWatched cut e kept old w new
SaysAnswer cut e kept old (Ok a) new = Prim.⊥
SaysAnswer cut e kept old (Err f) new = (f ≡ refusal.Memory) × IsKept old new

abbrev pub SaysRecord : Bool → Result (OpenEnd × RecordView) OpenUnwatched → Numbered RecordView →
    Result Answer Refusal → Numbered RecordView → Type 0
SaysRecord cut (Ok x) old r new = SaysAnswer cut x.0 x.1 old r new
SaysRecord cut (Err (unwatched.Refused u)) old r new = (r ≡ Err (of_refused u)) × (new ≡ old)
SaysRecord cut (Err (unwatched.Deleted _)) old r new = (r ≡ Err refusal.Deleted) × (new ≡ old)

module _ (number : ℕ) (path : Path) (script : Text) (limit : ℕ) (watched : Path) where
  -- The run, and the record of what crossed the boundary of the interpreter at `watched`.
  pub record IsWatched (s : ServedTree) (c : ClientView) (old : Numbered RecordView)
      (t : ServedTree) (d : ClientView) (new : Numbered RecordView)
      (r : Result Answer Refusal) : Type 0 where
    pub begun : Both
    pub before : ServedTree
    pub begins : Begins s c number begun before
    pub left : Both
    pub ran : Table
    pub run : Result (OpenEnd × RecordView) OpenUnwatched
    pub refused : IfSome (unwatchable before.tree path script limit watched)
        (λ u. run ≡ Err (unwatched.Refused u))
    pub unchanged : IfSome (unwatchable before.tree path script limit watched)
        (λ _. (ran ≡ before.tree) × (left ≡ begun))
    pub marks : IfEnds run (λ _. marks_of ran ≡ marks_of before.tree)
    pub runs : IfEnds run (λ end. IsOpenRun outside before.tree begun path script
        (root_count before.tree + limit) ran left end)
    pub recorded : IfOk run (λ x. IsOpenRecord outside before.tree begun path script limit watched
        x.1 ran left x.0)
    pub deleted : IfDeleted run (λ deletion. IsOpenDeletion outside before.tree begun path script
        limit watched deletion.until ran left deletion.end)
    pub reacts : IfOk run (λ x. Reacts before.tree watched x.1.crossings ran)
    pub tree : t.tree ≡ ran
    pub comes : Comes before left t d
    pub says : SaysRecord d.talk.cut run old r new

  -- or it doesn't begin
  abbrev pub Watches : ServedTree → ClientView → Numbered RecordView → ServedTree → ClientView →
      Numbered RecordView → Result Answer Refusal → Type 0
  Watches s c old t d new r = IsWatched s c old t d new r ⊎
      (IsUnbegun s c t d r × (new ≡ old))

abbrev pub WatchesFor : Evaluation → Path → ServedTree → ClientView → Numbered RecordView →
    ServedTree → ClientView → Numbered RecordView → Result Answer Refusal → Type 0
WatchesFor e watched = Watches e.place.tree e.place.path e.script (limit_of e) watched
