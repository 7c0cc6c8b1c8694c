-- What a host was asked by an evaluation that was given up on its way, as for want of memory: it is
-- what the whole evaluation begins with.
use Rattle.std.specs.Prelude.{◌≡◌, ℕ, List, ◌++◌, Some}
use Rattle.tcl_partial_runs.specs.Beginnings.{Begun}
use Rattle.tcl_core.specs.Entries.{Answer}
use Rattle.tcl_core.specs.Entries.Entry.{Eval}
use Rattle.tcl_core.specs.Lives.{End, Whole, limited}
use Rattle.tcl_core.specs.Paths.{Path, Text}
use Rattle.tcl_core.specs.Programs.{Table}
use Rattle.tcl_core.specs.Execution.{Crossings}
use Rattle.tcl_core.specs.Trees.{Event, Node, Tree}
use Rattle.tcl_run_laws.specs.Replies.{Belongs}
use Rattle.tcl_host.specs.declared.reply.HostReply.{HostReply as TheirReply}
use Rattle.tcl_host.specs.declared.request.Request.{Request as TheirRequest}
use Rattle.tcl_run.specs.Language.{language}
use Rattle.tcl_language.specs.Table.{serve}
use Rattle.tcl_run.specs.Outsides.{hosted}
use Rattle.tcl_text.specs.declared.integer.Integers.{Integers}
use Rattle.tcl_tree.specs.Own.{Own}

-- The requests made until then and their replies: the replies belong to the host and take it from o
-- to z, and whatever replies follow them, the requests are those that the whole evaluation with
-- them begins with.
pub record IsBeginning {I S : Type 0} (step : S → TheirRequest → TheirReply → S → Type 0)
    (prog : Table Own I) (T : Tree Own) (p : Path) (s : Text) (n : ℕ) (o z : S) : Type 0 where
  pub replies : List Answer
  pub outs : List (Event Own)
  pub belongs : Belongs step o outs replies z
  pub begins : (more : List Answer) (ending : End) (all : List (Event Own)) (V : Tree Own) →
      Whole prog T p s n (replies ++ more) ending all V → (rest : List (Event Own)) ×
      (all ≡ outs ++ rest)

-- Where a script with a host, whose root may make n steps, is given up on its way, what the host
-- was asked until then is what the whole evaluation of that script begins with. So it is for every
-- table of commands and every tree.
abbrev pub RunsBegin : {S : Type 0} → Type 0 → (S → TheirRequest → TheirReply → S → Type 0) → Type 0
RunsBegin {S} I step = (prog : Table Own I) (T : Tree Own) (o z : S) (p : Path) (s : Text) (n : ℕ) →
    Begun (Crossings (hosted step)) prog (limited n T) o p (prog.entry (Eval s)) z →
    IsBeginning step prog T p s n o z

-- The same of a script in an interpreter that stands, with the commands of the language.
abbrev pub ScriptsBegin : {S : Type 0} → (S → TheirRequest → TheirReply → S → Type 0) → Type 0
ScriptsBegin {S} step = (style : Integers) (T : Tree Own) (o z : S) (p : Path) (s : Text) (n : ℕ)
    (there : Node Own) → T p ≡ Some there →
    Begun (Crossings (hosted step)) (language style) (limited n T) o p (serve style (Eval s)) z →
    IsBeginning step (language style) T p s n o z
