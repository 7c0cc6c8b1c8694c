-- What contracts see of calls of the host: what the words of a command ask for, and what the reply
-- is to the script.
use Rattle.std.specs.Prelude.{◌≡◌, ℕ, true, false, List, Result, Ok, Err, MatchResult}
use Rattle.tcl_core.specs.Endings.{Reply, unreturned}
use Rattle.tcl_core.specs.Endings.Reply.{Completed}
use Rattle.tcl_core.specs.Entries as core
use Rattle.tcl_core.specs.Entries.{HostReply, Request}
use Rattle.tcl_core.specs.Paths.{Place, Text}
use Rattle.tcl_core.specs.Trees.{Tree}
use Rattle.tcl_flow.specs.View.{completion_of}
use Rattle.tcl_host.specs.declared.open_mode.OpenMode.{OpenMode}
use Rattle.tcl_language.specs.Hosting as hosting
use Rattle.tcl_language.specs.Instructions.{Program}
use Rattle.tcl_language.specs.Sourcing as sourcing
use Rattle.tcl_run.specs.Ends.{IfEnded, Interrupts, failing}
use Rattle.tcl_run.specs.Entering.{mode_text}
use Rattle.tcl_run.specs.Plain.{Does}
use Rattle.tcl_run.specs.declared.interruption.Interruption.{Interruption}
use Rattle.tcl_run.specs.declared.interruption.Interruption.TheVariants as interruption
use Rattle.tcl_tree.specs.Own.{Own}
use Rattle.tcl_calls.specs.declared.host_calls.HostCall.{HostCall}
use Rattle.tcl_calls.specs.declared.host_calls.HostCall.TheVariants as call
use Rattle.tcl_calls.specs.declared.host_calls.HostCommand.{HostCommand}
use Rattle.tcl_calls.specs.declared.host_calls.HostCommand.TheVariants as command

-- the program is over so, in whatever tree, and leaves it as it is
abbrev pub IsOver : Program → Reply → Type 0
IsOver program e = (T : Tree Own) (p : Place) → Does program T p T e

-- ## Words

-- what a command with these words means
abbrev pub program_of : HostCommand → List Text → Program
program_of command.Open words = hosting.open_file words
program_of command.Close words = hosting.close words
program_of command.Gets words = hosting.gets words
program_of command.Read words = hosting.read words
program_of command.Eof words = hosting.eof words
program_of command.Flush words = hosting.flush words

-- what a call means
abbrev pub meaning_of : HostCall → Program
meaning_of (call.Open file mode) = hosting.opens file (mode_text mode)
meaning_of (call.ReadLine channel) = hosting.reads_line channel
meaning_of (call.ReadLineInto channel name) = hosting.reads_line_into channel name
meaning_of (call.ReadAll channel) = hosting.reads_all channel
meaning_of (call.Write channel text) = hosting.writes channel text
meaning_of (call.Flush channel) = hosting.flushes channel
meaning_of (call.Close channel) = hosting.closes channel
meaning_of (call.Eof channel) = hosting.asks_end channel

-- the request that it makes
abbrev pub request_by : HostCall → Request
request_by (call.Open file mode) = core.Request.Open file (mode_text mode)
request_by (call.ReadLine channel) = core.Request.ReadLine channel
request_by (call.ReadLineInto channel name) = core.Request.ReadLine channel
request_by (call.ReadAll channel) = core.Request.ReadAll channel
request_by (call.Write channel text) = core.Request.Write channel text
request_by (call.Flush channel) = core.Request.Flush channel
request_by (call.Close channel) = core.Request.Close channel
request_by (call.Eof channel) = core.Request.AtEnd channel

-- and how it goes on with the reply
abbrev pub heard_by : HostCall → HostReply → Program
heard_by (call.Open file mode) = hosting.opened file
heard_by (call.ReadLine channel) = hosting.text_read channel
heard_by (call.ReadLineInto channel name) = hosting.line_read channel name
heard_by (call.ReadAll channel) = hosting.text_read channel
heard_by (call.Write channel text) = hosting.accepted channel
heard_by (call.Flush channel) = hosting.accepted channel
heard_by (call.Close channel) = hosting.accepted channel
heard_by (call.Eof channel) = hosting.at_end channel

-- The program is this call; or it is over, since its words ask for none.
abbrev pub IsCall : Program → Result HostCall Interruption → Type 0
IsCall program result = MatchResult result (λ made. program ≡ meaning_of made)
    (λ i. Interrupts i (IsOver program))

-- what a word that should name a mode is
abbrev pub IsMode : Text → Result OpenMode Interruption → Type 0
IsMode word result = MatchResult result
    (λ mode. (hosting.is_mode word ≡ true) × (word ≡ mode_text mode))
    (λ i. Interrupts i (λ e. (hosting.is_mode word ≡ false) ×
    (e ≡ Completed (failing (hosting.bad_mode word)))))

-- ## Replies

-- what bytes that were read from this are: a text, with which a program goes on, or an error
abbrev pub IsRead : Text → List ℕ → Result Text Interruption → Type 0
IsRead x bytes result = MatchResult result
    (λ text. (k : Text → Program) → hosting.read_from x bytes k ≡ k text)
    (λ i. Interrupts i (λ e. (k : Text → Program) → IsOver (hosting.read_from x bytes k) e))

-- The program is over so.
abbrev pub Ends : Program → Result Text Interruption → Type 0
Ends program result = IfEnded result (IsOver program)

-- ## The script of a file

-- the channel to a file that was to be opened, or the error that it is
abbrev pub IsOpened : Text → HostReply → Result Text Interruption → Type 0
IsOpened file reply result = MatchResult result
    (λ channel. sourcing.script_opened file reply ≡ sourcing.reads_script file channel)
    (λ i. Interrupts i (IsOver (sourcing.script_opened file reply)))

-- the script that is evaluated, where the file was read and closed so, or the error that it is
abbrev pub IsScript : Program → Result Text Interruption → Type 0
IsScript program result = MatchResult result (λ text. program ≡ sourcing.evaluates_file text)
    (λ i. Interrupts i (IsOver program))

-- the end of a file whose script ended so
abbrev pub LeavesFile : Result Text Interruption → Result Text Interruption → Type 0
LeavesFile (Ok text) r = r ≡ Ok text
LeavesFile (Err (interruption.Completed c)) r = IfEnded r
    (λ e. e ≡ Completed (unreturned (completion_of c.value).code (completion_of c.value)))
LeavesFile (Err i) r = r ≡ Err i
