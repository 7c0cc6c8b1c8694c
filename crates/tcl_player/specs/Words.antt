-- What crosses a boundary, in words.
use Rattle.std.specs.Fmt.{decimal, signed_decimal}
use Rattle.std.specs.Prelude.{ℕ, Bool, true, false, List, [], ◌∷◌, codes, length, Option, Some}
use Rattle.std.specs.Prelude.{None}
use Rattle.tcl_core.specs.Endings.{Kind, Reply}
use Rattle.tcl_core.specs.Endings.Kind.{Full, Gone}
use Rattle.tcl_core.specs.Endings.Meter.{Count, Depth}
use Rattle.tcl_core.specs.Endings.Reply.{Completed, Stop, Exit, Cut}
use Rattle.tcl_core.specs.Entries.{Answer, Entry, HostReply, Question, Request}
use Rattle.tcl_core.specs.Entries.Answer.{Replied, Heard, Nobody}
use Rattle.tcl_core.specs.Entries.Entry.{Eval, CallWords, InvokeHidden, SetAlias, ClearAlias, Hide}
use Rattle.tcl_core.specs.Entries.Entry.{Expose, SetCountLimit, SetDepthLimit, Create, Delete, Ask}
use Rattle.tcl_core.specs.Entries.Entry.{AskHost}
use Rattle.tcl_core.specs.Entries.HostReply.{Opened, Line, TheEnd, TheRest, Accepted, Is, Fails}
use Rattle.tcl_core.specs.Entries.Question.{Exists, IsSafe, Aliases, AliasOf, Hidden, Slaves}
use Rattle.tcl_core.specs.Entries.Question.{CountLimitOf, DepthLimitOf}
use Rattle.tcl_core.specs.Entries.Request.{Open, ReadLine, ReadAll, Write, Flush, Close, AtEnd}
use Rattle.tcl_core.specs.Paths.{Height, Path, Text}
use Rattle.tcl_core.specs.Trees.{What}
use Rattle.tcl_core.specs.Trees.What.{Out, In, Done, Back}
use Rattle.tcl_text.specs.Writing.{written_list}
use Rattle.tcl_tree.specs.Own.{Own}

-- ## What is asked

abbrev pub request_words : Request → List Text
request_words (Open name mode) = codes "open" ∷ name ∷ mode ∷ []
request_words (ReadLine channel) = codes "gets" ∷ channel ∷ []
request_words (ReadAll channel) = codes "read" ∷ channel ∷ []
request_words (Write channel text) = codes "puts" ∷ channel ∷ text ∷ []
request_words (Flush channel) = codes "flush" ∷ channel ∷ []
request_words (Close channel) = codes "close" ∷ channel ∷ []
request_words (AtEnd channel) = codes "eof" ∷ channel ∷ []

abbrev pub question_words : Question → List Text
question_words Exists = codes "exists" ∷ []
question_words IsSafe = codes "issafe" ∷ []
question_words Aliases = codes "aliases" ∷ []
question_words (AliasOf name) = codes "alias" ∷ name ∷ []
question_words Hidden = codes "hidden" ∷ []
question_words Slaves = codes "slaves" ∷ []
question_words CountLimitOf = codes "limit" ∷ []
question_words DepthLimitOf = codes "recursionlimit" ∷ []

abbrev pub limit_word : Option ℕ → Text
limit_word (Some n) = decimal n
limit_word None = codes "none"

abbrev pub safe_word : Bool → Text
safe_word true = codes "create-safe"
safe_word false = codes "create"

-- an alias that is set: how far up its way goes, and the names down, as a list
abbrev pub alias_words : Text → ℕ → Path → List Text → List Text
alias_words name up down words = codes "set-alias" ∷ name ∷ decimal up ∷ written_list down ∷ words

abbrev pub entry_words : Entry → List Text
entry_words (Eval text) = codes "eval" ∷ text ∷ []
entry_words (CallWords words) = codes "call" ∷ words
entry_words (InvokeHidden true words) = codes "invokehidden-global" ∷ words
entry_words (InvokeHidden false words) = codes "invokehidden" ∷ words
entry_words (SetAlias name up down words) = alias_words name up down words
entry_words (ClearAlias name) = codes "clear-alias" ∷ name ∷ []
entry_words (Hide name hidden) = codes "hide" ∷ name ∷ hidden ∷ []
entry_words (Expose hidden name) = codes "expose" ∷ hidden ∷ name ∷ []
entry_words (SetCountLimit limit) = codes "limit" ∷ limit_word limit ∷ []
entry_words (SetDepthLimit limit) = codes "recursionlimit" ∷ decimal limit ∷ []
entry_words (Create (Some name) safe) = safe_word safe ∷ name ∷ []
entry_words (Create None safe) = safe_word safe ∷ []
entry_words (Delete name) = codes "delete" ∷ name ∷ []
entry_words (Ask question) = question_words question
entry_words (AskHost request) = request_words request

-- ## How it ended

-- what a stop was raised for
abbrev pub kind_word : Kind → Text
kind_word (Full Count) = codes "commands"
kind_word (Full Depth) = codes "recursionlimit"
kind_word Gone = codes "deleted"

abbrev pub reply_words : Reply → List Text
reply_words (Completed c) = codes "code" ∷ signed_decimal c.code ∷ c.text ∷ []
reply_words (Stop n k) = codes "stop" ∷ decimal n ∷ kind_word k ∷ []
reply_words (Exit n) = codes "exit" ∷ signed_decimal n ∷ []
reply_words (Cut c) = codes "ended" ∷ []

-- of a line that was read, and of all that was left, how many bytes they are
abbrev pub heard_words : HostReply → List Text
heard_words (Opened channel) = codes "opened" ∷ channel ∷ []
heard_words (Line bytes) = codes "line" ∷ decimal (length bytes) ∷ []
heard_words TheEnd = codes "end" ∷ []
heard_words (TheRest bytes) = codes "rest" ∷ decimal (length bytes) ∷ []
heard_words Accepted = codes "done" ∷ []
heard_words (Is true) = codes "at-end" ∷ []
heard_words (Is false) = codes "not-at-end" ∷ []
heard_words (Fails number) = codes "refused" ∷ decimal number ∷ []

abbrev pub answer_words : Answer → List Text
answer_words (Replied r) = reply_words r
answer_words (Heard a) = heard_words a
answer_words Nobody = codes "nobody" ∷ []

-- ## Crossings

-- to whom a call goes: so many levels up, or to the host
abbrev pub height_word : Height → Text
height_word (Some n) = decimal n
height_word None = codes "host"

-- A crossing is told by its kind and the path of the interpreter where it is seen; of a call also
-- how far it goes up, and the names down.
abbrev pub crossing_words : Path → What Own → List Text
crossing_words p (In h i) = codes "in" ∷ written_list p ∷ entry_words i
crossing_words p (Done h r) = codes "done" ∷ written_list p ∷ reply_words r
crossing_words p (Out h down i) = codes "out" ∷ written_list p ∷ height_word h ∷ written_list down ∷
    entry_words i
crossing_words p (Back h a) = codes "back" ∷ written_list p ∷ height_word h ∷ answer_words a
crossing_words p x = []
