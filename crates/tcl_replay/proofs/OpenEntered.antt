-- A run with a recorder, and the run without it.
use Rattle.std.proofs.Common.{◌≡◌, ℕ, ◌+◌, true, false, None, Some}
use Rattle.std.specs.Prelude.{is_some}
use Rattle.tcl_core.specs.Endings.{Reply}
use Rattle.tcl_core.specs.Entries.Entry.{Eval}
use Rattle.tcl_core.specs.Execution.{event}
use Rattle.tcl_core.specs.Lives.{limited}
use Rattle.tcl_core.specs.Paths.{Path, Text}
use Rattle.tcl_core.specs.Trees.{Event, Node, Tree}
use Rattle.tcl_core.specs.Trees.What.{Done, In}
use Rattle.tcl_eval.specs.Running.{IsOpenRun, root_count}
use Rattle.tcl_eval.specs.declared.running.OpenEnd.{OpenEnd}
use Rattle.tcl_language.specs.Table.{serve}
use Rattle.tcl_run.specs.Language.{language}
use Rattle.tcl_recorder.proofs.Visits.{watched_entry}
use Rattle.tcl_recorder.proofs.Watched.{unwatched}
use Rattle.tcl_recorder.specs.Laws.{WatchedEntry}
use Rattle.tcl_recorder.specs.Recording.{noted, recorded}
use Rattle.tcl_recorder.specs.declared.recorder.Recorder.{Recorder}
use Rattle.tcl_run.proofs.Steady.{stands, still_stands}
use Rattle.tcl_run.specs.Outsides.{Going}
use Rattle.tcl_text.specs.declared.integer.Integers.{Integers}
use Rattle.tcl_tree.specs.Own.{Own}
use Rattle.tcl_tree.specs.TreeOf.{tree_of, marks_of}
use Rattle.tcl_tree.specs.declared.tree.Tree.{Tree as Table}

module _ {S : Type 0} (goes : Going S) (old : Table) (o : Recorder S) (path : Path) (script : Text) (limit : ℕ) (new : Table) (z : Recorder S) where
  abbrev style : Integers
  style = (marks_of old).integers

  -- the tree with the limit of the run
  abbrev T0 : Tree Own
  T0 = limited limit (tree_of old)

  abbrev first : Event Own
  first = event path (In None (Eval script))

  abbrev pub last : Reply → Event Own
  last r = event path (Done None r)

  abbrev pub Opened : OpenEnd → Type 0
  Opened e = IsOpenRun (recorded goes) old (noted o first) path script (root_count old + limit) new z e

  -- who stands at the path
  here : is_some (tree_of old path) ≡ true → (n : Node Own) × (T0 path ≡ Some n)
  here there = let n = stands (tree_of old path) there in still_stands (tree_of old) (Some (root_count old + limit)) path n.0 n.1

  -- nothing is missing from the record then
  pub unbroken : (e : OpenEnd) → (run : Opened e) → run.between.incomplete ≡ false
  unbroken e run = (run.told.keeps (run.told.ends tt)).whole

  -- what is recorded of it
  pub entry : (e : OpenEnd) → is_some (tree_of old path) ≡ true → (run : Opened e) → WatchedEntry goes (language style) T0 o path (Eval script) run.during (noted run.between (last run.reply)) run.reply
  entry e there run = let n = here there in watched_entry goes (language style) T0 run.during o run.between path (Eval script) run.reply n.0 n.1 (unbroken e run) run.runs

  -- and the run without
  pub plain : (e : OpenEnd) → Opened e → IsOpenRun goes old o.outside path script (root_count old + limit) new z.outside e
  plain e run = record {
    during = run.during;
    between = run.between.outside;
    reply = run.reply;
    runs = unwatched goes (language style) T0 run.during (noted o first) run.between path (serve style (Eval script)) run.reply run.runs;
    told = run.told.outside;
    after = run.after;
    ends = run.ends;
  }
