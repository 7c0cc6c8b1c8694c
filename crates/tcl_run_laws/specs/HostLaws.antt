-- The laws of runs with a host.
use Rattle.std.specs.Prelude.{◌≡◌, ℕ, Bool, List, Some}
use Rattle.tcl_core.specs.Endings.{Reply}
use Rattle.tcl_core.specs.Entries.{Answer}
use Rattle.tcl_core.specs.Entries.Entry.{Eval}
use Rattle.tcl_core.specs.Lives.{End, Whole, end_at, limited, unlimited}
use Rattle.tcl_core.specs.Paths.{Path, Text}
use Rattle.tcl_core.specs.Programs.{Table}
use Rattle.tcl_core.specs.Execution.{Crossings, Executes}
use Rattle.tcl_core.specs.Trees.{Event, Node, Tree}
use Rattle.tcl_run_laws.specs.Replies.{Belongs}
use Rattle.tcl_run_laws.specs.Limits.{HasTop, KeepTops}
use Rattle.tcl_host.specs.declared.reply.HostReply.{HostReply as TheirReply}
use Rattle.tcl_host.specs.declared.request.Request.{Request as TheirRequest}
use Rattle.tcl_run.specs.Language.{language}
use Rattle.tcl_language.specs.Table.{serve}
use Rattle.tcl_run.specs.Outsides.{hosted}
use Rattle.tcl_text.specs.declared.integer.Integers.{Integers}
use Rattle.tcl_tree.specs.Own.{Own}

-- The run is the whole evaluation of the script at p in T, with n counted steps, for replies that
-- belong to the host and take it from o to z. V is the tree before its root has its own limit
-- again, and r how the entry ended.
pub record WholeRun {I S : Type 0} (step : S → TheirRequest → TheirReply → S → Type 0)
    (prog : Table Own I) (T : Tree Own) (p : Path) (s : Text) (n : ℕ) (o : S) (V : Tree Own) (z : S)
    (r : Reply) : Type 0 where
  pub replies : List Answer
  pub outs : List (Event Own)
  pub ending : End
  pub whole : Whole prog T p s n replies ending outs (unlimited T V)
  pub belongs : Belongs step o outs replies z
  pub ends : end_at p r ≡ Some ending
  pub stands : HasTop (unlimited T V)

-- What comes of a script with a host, where the root may make n steps, is the whole evaluation of
-- that script, with replies that belong to the host. Of the table it wants that no command sets the
-- limit of steps of the tree's top; and of the tree that an interpreter stands there.
abbrev pub RunsAreWhole : {S : Type 0} → Type 0 → (S → TheirRequest → TheirReply → S → Type 0) →
    Type 0
RunsAreWhole {S} I step = (fine : I → Bool) (prog : Table Own I) (T V : Tree Own) (o z : S)
    (p : Path) (s : Text) (n : ℕ) (r : Reply) (there : Node Own) → KeepTops fine prog → HasTop T →
    T p ≡ Some there → Executes (Crossings (hosted step)) prog (limited n T) o p
    (prog.entry (Eval s)) V z r → WholeRun step prog T p s n o V z r

-- The same of a script in an interpreter that stands, with the commands of the language.
abbrev pub ScriptsAreWhole : {S : Type 0} → (S → TheirRequest → TheirReply → S → Type 0) → Type 0
ScriptsAreWhole {S} step = (style : Integers) (T V : Tree Own) (o z : S) (p : Path) (s : Text)
    (n : ℕ) (r : Reply) (there : Node Own) → HasTop T → T p ≡ Some there →
    Executes (Crossings (hosted step)) (language style) (limited n T) o p (serve style (Eval s)) V z
    r → WholeRun step (language style) T p s n o V z r
