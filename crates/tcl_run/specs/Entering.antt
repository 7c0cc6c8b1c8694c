-- What an interpreter is asked for, in the words of the core.
use Rattle.tcl_core.specs.Entries as core
use Rattle.tcl_core.specs.Entries.Entry.{Eval, CallWords, InvokeHidden, SetAlias, ClearAlias, Hide}
use Rattle.tcl_core.specs.Entries.Entry.{Expose, SetCountLimit, SetDepthLimit, Create, Delete, Ask}
use Rattle.tcl_core.specs.Entries.Entry.{AskHost}
use Rattle.tcl_core.specs.Entries.Request.{Open, ReadLine, ReadAll, Write, Flush, Close, AtEnd}
use Rattle.tcl_core.specs.Entries.Question.{Exists, IsSafe, Aliases, AliasOf, Hidden, Slaves}
use Rattle.tcl_core.specs.Entries.Question.{CountLimitOf, DepthLimitOf}
use Rattle.tcl_core.specs.Paths.{Text}
use Rattle.tcl_host.specs.declared.open_mode.OpenMode.{OpenMode}
use Rattle.tcl_host.specs.declared.open_mode.OpenMode.TheVariants as mode
use Rattle.tcl_host.specs.declared.request.Request.{Request}
use Rattle.tcl_host.specs.declared.request.Request.TheVariants as request
use Rattle.std.specs.Prelude.{codes}
use Rattle.tcl_run.specs.declared.entry.Entry.{Entry}
use Rattle.tcl_run.specs.declared.entry.Entry.TheVariants as entry
use Rattle.tcl_run.specs.declared.entry.OwnEntry.{OwnEntry}
use Rattle.tcl_run.specs.declared.entry.OwnEntry.TheVariants as own
use Rattle.tcl_run.specs.declared.entry.Question.{Question}
use Rattle.tcl_run.specs.declared.entry.Question.TheVariants as asked

abbrev pub question_of : Question → core.Question
question_of asked.Exists = Exists
question_of asked.IsSafe = IsSafe
question_of asked.Aliases = Aliases
question_of (asked.AliasOf name) = AliasOf name
question_of asked.Hidden = Hidden
question_of asked.Slaves = Slaves
question_of asked.CountLimitOf = CountLimitOf
question_of asked.DepthLimitOf = DepthLimitOf

abbrev pub entry_of : OwnEntry → core.Entry
entry_of (own.SetAlias name alias) = SetAlias name alias.up alias.down alias.words
entry_of (own.ClearAlias name) = ClearAlias name
entry_of (own.Hide name hidden) = Hide name hidden
entry_of (own.Expose hidden name) = Expose hidden name
entry_of (own.SetCountLimit limit) = SetCountLimit limit
entry_of (own.SetDepthLimit limit) = SetDepthLimit limit
entry_of (own.Create name safe) = Create name safe
entry_of (own.Delete name) = Delete name
entry_of (own.Ask q) = Ask (question_of q)

-- the word for a mode in which a file is opened
abbrev pub mode_text : OpenMode → Text
mode_text mode.Read = codes "r"
mode_text mode.Write = codes "w"
mode_text mode.Append = codes "a"

-- a request of a host
abbrev pub request_of : Request → core.Request
request_of (request.Open name mode) = Open name (mode_text mode)
request_of (request.ReadLine channel) = ReadLine channel
request_of (request.ReadAll channel) = ReadAll channel
request_of (request.Write channel text) = Write channel text
request_of (request.Flush channel) = Flush channel
request_of (request.Close channel) = Close channel
request_of (request.Eof channel) = AtEnd channel

-- whatever is asked for
abbrev pub whole_entry : Entry → core.Entry
whole_entry (entry.Eval script) = Eval script
whole_entry (entry.CallWords words) = CallWords words.items
whole_entry (entry.InvokeHidden is_global words) = InvokeHidden is_global words.items
whole_entry (entry.Own own) = entry_of own
whole_entry (entry.AskHost request) = AskHost (request_of request)

-- it asks for what evaluates nothing
abbrev pub IsOwn : Entry → Type 0
IsOwn (entry.Own own) = Unit {0}
IsOwn e = Prim.⊥
