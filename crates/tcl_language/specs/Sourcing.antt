-- `source`: a script that is read from a file.
use Rattle.std.specs.Prelude.{List, [], ◌∷◌, codes}
use Rattle.tcl_core.specs.Paths.{Text}
use Rattle.tcl_core.specs.Endings.{Completion, ok, unreturned}
use Rattle.tcl_core.specs.Entries.{HostReply}
use Rattle.tcl_core.specs.Entries.Request.{Open, ReadAll, Close}
use Rattle.tcl_core.specs.Entries.HostReply.{Opened, TheRest, Fails}
use Rattle.tcl_core.specs.Programs.Prog.{done, go}
use Rattle.tcl_language.specs.Instructions.{Program, fails}
use Rattle.tcl_language.specs.Instructions.Instr.{Script}
use Rattle.tcl_language.specs.Faults.{wrong_args}
use Rattle.tcl_language.specs.Hosting.{asks, read_from, refusal_message}

-- a return of the script comes one level nearer, and everything else passes
abbrev pub leaves_file : Completion → Program
leaves_file c = done (unreturned c.code c)

abbrev pub evaluates_file : Text → Program
evaluates_file text = go (Script text) leaves_file

-- on, where the channel was closed
abbrev pub after_close : Text → Program → HostReply → Program
after_close file k (Fails number) = fails (refusal_message number file)
after_close file k _ = k

-- What was read is looked at once the channel is closed, where that succeeds. A refused read is the
-- error, however the close went.
abbrev pub closed : Text → HostReply → HostReply → Program
closed file (TheRest bytes) = after_close file (read_from file bytes evaluates_file)
closed file (Fails number) = λ reply. fails (refusal_message number file)
closed file _ = after_close file (done (ok []))

-- The channel is closed behind the read, however that went.
abbrev pub reads_script : Text → Text → Program
reads_script file channel = asks (ReadAll channel) (λ read. asks (Close channel) (closed file read))

abbrev pub script_opened : Text → HostReply → Program
script_opened file (Opened channel) = reads_script file channel
script_opened file (Fails number) = fails (refusal_message number file)
script_opened file _ = done (ok [])

-- the script of a file is read by an open, a read of all and a close, and then evaluated
abbrev pub sources : Text → Program
sources file = asks (Open file (codes "r")) (script_opened file)

-- `source name`
abbrev pub source : List Text → Program
source (file ∷ []) = sources file
source _ = fails (wrong_args (codes "source name"))
