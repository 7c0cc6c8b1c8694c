-- The commands that reach the host, and `exit`.
use Rattle.std.specs.Prelude.{ℕ, ℤ, pos, negsuc, Bool, true, false, List, [], ◌∷◌, ◌++◌, None}
use Rattle.std.specs.Prelude.{codes, length, nat_le, ◌==◌, ◌||◌}
use Rattle.std.specs.Fmt.{signed_decimal}
use Rattle.std.specs.Str.{bytes_eq, chars, is_utf8}
use Rattle.tcl_core.specs.Paths.{Text}
use Rattle.tcl_core.specs.Endings.{ok}
use Rattle.tcl_core.specs.Entries.{Request, HostReply, Said}
use Rattle.tcl_core.specs.Entries.Entry.{AskHost}
use Rattle.tcl_core.specs.Entries.Request.{Open, ReadLine, ReadAll, Write, Flush, Close, AtEnd}
use Rattle.tcl_core.specs.Entries.HostReply.{Opened, Line, TheEnd, TheRest, Is, Fails}
use Rattle.tcl_core.specs.Entries.Said.{Finished, Told, Missed}
use Rattle.tcl_core.specs.Programs.Prog.{done, exit, call}
use Rattle.tcl_text.specs.declared.integer.Integers.{Integers}
use Rattle.tcl_text.specs.Messages as messages
use Rattle.tcl_language.specs.Instructions.{Program, either, fails, gives, grown}
use Rattle.tcl_frames.specs.Messages.{quoted}
use Rattle.tcl_language.specs.Faults.{wrong_args}
use Rattle.tcl_language.specs.Variables.{integer, sets}

-- what a refusal of the host says of a channel, or of the file that was to be opened
abbrev pub refusal_message : ℕ → Text → Text
refusal_message number x =
    either (number == 261) (quoted (codes "can not find channel named ") x [])
    (either (number == 262) (quoted (codes "device fault on ") x [])
    (quoted (codes "couldn't open ") x []))

-- on with the host's reply to a request; nothing else answers one
abbrev pub heard : (HostReply → Program) → Said → Program
heard k (Finished c) = done c
heard k (Told reply) = k reply
heard k Missed = done (ok [])

abbrev pub asks : Request → (HostReply → Program) → Program
asks request k = call None [] (AskHost request) (ok []) (heard k)

-- what a request that only is accepted or refused comes to. No host gives the replies that are left
-- out here, in what follows too.
abbrev pub accepted : Text → HostReply → Program
accepted channel (Fails number) = fails (refusal_message number channel)
accepted channel _ = done (ok [])

-- ## Writing

abbrev pub writes : Text → Text → Program
writes channel text = asks (Write channel text) (accepted channel)

abbrev pub newline : Text
newline = 10 ∷ []

-- a line
abbrev pub puts_line : Text → Text → Program
puts_line channel text = grown (text ++ newline) (writes channel)

abbrev pub stdout : Text
stdout = codes "stdout"

abbrev pub puts_form : Program
puts_form = fails (wrong_args (codes "puts ?-nonewline? ?channel? string"))

abbrev pub is_nonewline : Text → Bool
is_nonewline word = bytes_eq word (codes "-nonewline")

-- `puts ?-nonewline? ?channel? string`
abbrev pub puts : List Text → Program
puts (text ∷ []) = puts_line stdout text
puts (word ∷ text ∷ []) = either (is_nonewline word) (writes stdout text) (puts_line word text)
puts (word ∷ channel ∷ text ∷ []) = either (is_nonewline word) (writes channel text) puts_form
puts _ = puts_form

-- ## Reading

abbrev pub not_utf8 : Text → Text
not_utf8 x = quoted [] x (codes " is not UTF-8")

-- on with bytes that were read from this, where they are no more than a value may have, and then
-- where they are UTF-8
abbrev pub read_from : Text → List ℕ → (Text → Program) → Program
read_from x bytes k = grown bytes (λ text. either (is_utf8 text) (k text) (fails (not_utf8 x)))

abbrev pub gives_text : Text → Program
gives_text text = done (ok text)

-- the text that was read, a line or all that was left, which is empty at the end
abbrev pub text_read : Text → HostReply → Program
text_read channel (Line bytes) = read_from channel bytes gives_text
text_read channel (TheRest bytes) = read_from channel bytes gives_text
text_read channel (Fails number) = fails (refusal_message number channel)
text_read channel _ = done (ok [])

-- the variable is set to the line, and its characters are counted
abbrev pub keeps_line : Text → Text → Program
keeps_line name line = sets name line (done (ok (signed_decimal (pos (length (chars line))))))

-- a line that was read for a variable. At the end this is empty, and the number is -1.
abbrev pub line_read : Text → Text → HostReply → Program
line_read channel name (Line bytes) = read_from channel bytes (keeps_line name)
line_read channel name TheEnd = sets name [] (done (ok (codes "-1")))
line_read channel name (Fails number) = fails (refusal_message number channel)
line_read channel name _ = done (ok [])

-- a command of this form, whose one word is a channel
abbrev pub on_channel : Text → (Text → Program) → List Text → Program
on_channel form k (channel ∷ []) = k channel
on_channel form k _ = fails (wrong_args form)

abbrev pub reads_line : Text → Program
reads_line channel = asks (ReadLine channel) (text_read channel)

abbrev pub reads_line_into : Text → Text → Program
reads_line_into channel name = asks (ReadLine channel) (line_read channel name)

abbrev pub reads_all : Text → Program
reads_all channel = asks (ReadAll channel) (text_read channel)

-- `gets channel ?varName?`
abbrev pub gets : List Text → Program
gets (channel ∷ []) = reads_line channel
gets (channel ∷ name ∷ []) = reads_line_into channel name
gets _ = fails (wrong_args (codes "gets channel ?varName?"))

-- `read channel`: all that is left
abbrev pub read : List Text → Program
read = on_channel (codes "read channel") reads_all

-- ## Channels

abbrev pub bad_mode : Text → Text
bad_mode word = quoted (codes "bad mode ") word []

-- reading; writing to a file that is made or emptied; writing at the end of one that is made where
-- it is missing
abbrev pub is_mode : Text → Bool
is_mode word = bytes_eq word (codes "r") || bytes_eq word (codes "w") || bytes_eq word (codes "a")

abbrev pub opened : Text → HostReply → Program
opened file (Opened channel) = gives channel
opened file (Fails number) = fails (refusal_message number file)
opened file _ = done (ok [])

abbrev pub opens : Text → Text → Program
opens file mode = asks (Open file mode) (opened file)

-- `open name ?mode?`
abbrev pub open_file : List Text → Program
open_file (file ∷ []) = opens file (codes "r")
open_file (file ∷ mode ∷ []) = either (is_mode mode) (opens file mode) (fails (bad_mode mode))
open_file _ = fails (wrong_args (codes "open name ?mode?"))

abbrev pub closes : Text → Program
closes channel = asks (Close channel) (accepted channel)

-- `close channel`
abbrev pub close : List Text → Program
close = on_channel (codes "close channel") closes

abbrev pub flushes : Text → Program
flushes channel = asks (Flush channel) (accepted channel)

-- `flush channel`
abbrev pub flush : List Text → Program
flush = on_channel (codes "flush channel") flushes

abbrev pub truth : Bool → Text
truth true = codes "1"
truth false = codes "0"

abbrev pub at_end : Text → HostReply → Program
at_end channel (Is answer) = done (ok (truth answer))
at_end channel (Fails number) = fails (refusal_message number channel)
at_end channel _ = done (ok [])

abbrev pub asks_end : Text → Program
asks_end channel = asks (AtEnd channel) (at_end channel)

-- `eof channel`: whether the last read met the end
abbrev pub eof : List Text → Program
eof = on_channel (codes "eof channel") asks_end

-- ## The end of the run

abbrev pub exits : ℤ → Program
exits (pos n) = either (nat_le n 255) (exit (pos n)) (fails messages.bad_status)
exits (negsuc n) = fails messages.bad_status

-- `exit ?status?`
abbrev pub exit_with : Integers → List Text → Program
exit_with style [] = exit (pos 0)
exit_with style (status ∷ []) = integer style status exits
exit_with style _ = fails (wrong_args (codes "exit ?status?"))
