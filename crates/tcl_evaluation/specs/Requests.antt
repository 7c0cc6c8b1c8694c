-- What contracts see of requests of the host.
use Rattle.std.specs.Prelude.{Result, MatchResult}
use Rattle.tcl_core.specs.Entries.{HostReply, Request}
use Rattle.tcl_core.specs.Runs.{Ending}
use Rattle.tcl_host.specs.declared.reply.HostReply.{HostReply as TheirReply}
use Rattle.tcl_language.specs.Hosting.{asks}
use Rattle.tcl_language.specs.Instructions.{Program}
use Rattle.tcl_language.specs.Sourcing.{evaluates_file}
use Rattle.tcl_run.specs.Language.{language}
use Rattle.tcl_core.specs.Paths.{Text}
use Rattle.tcl_run.specs.Ends.{Breaks}
use Rattle.tcl_run.specs.Outsides.{reply_of}
use Rattle.tcl_run.specs.Runs.{Proceeds, Ways}
use Rattle.tcl_run.specs.declared.interruption.Interruption.{Interruption}
use Rattle.tcl_tree.specs.TreeOf.{tree_of}
use Rattle.tcl_tree.specs.declared.tree.Place.{Place}
use Rattle.tcl_tree.specs.declared.tree.Tree.{Tree as Table}
use Rattle.tcl_evaluation.specs.View.{Leads}
use Rattle.tcl_evaluation.specs.Waiting.{Wherever}

-- Whatever makes this request goes on with this reply of the host.
abbrev pub HearsOn : {S : Type 0} → Ways S → Table → S → Place → Request → Table → S → HostReply →
    Type 0
HearsOn ways old o place q new z reply = Wherever old place (λ p style. (k : HostReply → Program) →
    Leads ways style (tree_of old) o p (asks q k) (tree_of new) z (k reply))

-- It ends so in its place, or is given up.
abbrev pub EndsAsking : {S : Type 0} → Ways S → Table → S → Place → Request → Table → S → Ending →
    Type 0
EndsAsking ways old o place q new z e = Wherever old place (λ p style. (k : HostReply → Program) →
    Proceeds ways (language style) (tree_of old) o p (asks q k) (tree_of new) z e)

-- What came of a request of the host.
abbrev pub Hears : {S : Type 0} → Ways S → Table → S → Place → Request → Table → S →
    Result TheirReply Interruption → Type 0
Hears ways old o place q new z result = MatchResult result
    (λ reply. HearsOn ways old o place q new z (reply_of reply))
    (λ i. Breaks i (EndsAsking ways old o place q new z))

-- What came of a program that reads the script of a file: it goes on with the evaluation of a text,
-- or it ends, or is given up.
abbrev pub ReadsScript : {S : Type 0} → Ways S → Table → S → Place → Program → Table → S →
    Result Text Interruption → Type 0
ReadsScript ways old o place x new z result = MatchResult result
    (λ text. Wherever old place (λ p style. Leads ways style (tree_of old) o p x (tree_of new) z
    (evaluates_file text)))
    (λ i. Breaks i (λ e. Wherever old place
    (λ p style. Proceeds ways (language style) (tree_of old) o p x (tree_of new) z e)))
