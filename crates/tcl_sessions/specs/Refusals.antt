-- Refusals: their numbers and texts, and what errors become.
use Rattle.std.specs.Prelude.{ℤ, pos, codes}
use Rattle.tcl_core.specs.Paths.{Text}
use Rattle.tcl_eval.specs.declared.running.Refused.{Refused}
use Rattle.tcl_eval.specs.declared.running.Refused.TheVariants as refused
use Rattle.tcl_interpreter.specs.declared.refusal.TreeError.{TreeError}
use Rattle.tcl_interpreter.specs.declared.refusal.TreeError.TheVariants as tree
use Rattle.tcl_replay.specs.declared.replaying.Unplayed.{Unplayed}
use Rattle.tcl_replay.specs.declared.replaying.Unplayed.TheVariants as unplayed
use Rattle.tcl_sessions.specs.declared.refusal.Refusal.{Refusal}
use Rattle.tcl_sessions.specs.declared.refusal.Refusal.TheVariants.{UnmatchedBrace, UnmatchedQuote}
use Rattle.tcl_sessions.specs.declared.refusal.Refusal.TheVariants.{AfterBrace, AfterQuote, TooLong}
use Rattle.tcl_sessions.specs.declared.refusal.Refusal.TheVariants.{NotUtf8, NoFile, Tree, Memory}
use Rattle.tcl_sessions.specs.declared.refusal.Refusal.TheVariants.{Broken, Nobody, CountTooLarge}
use Rattle.tcl_sessions.specs.declared.refusal.Refusal.TheVariants.{Deleted, Waits, NothingHeld}
use Rattle.tcl_sessions.specs.declared.refusal.Refusal.TheVariants.{AlreadyHeld, OtherKind}
use Rattle.tcl_sessions.specs.declared.refusal.Refusal.TheVariants.{CallOpen, NoCallOpen}
use Rattle.tcl_sessions.specs.declared.refusal.Refusal.TheVariants.{NoStyle, NoRecord}
use Rattle.tcl_text.specs.Messages as messages
use Rattle.tcl_text.specs.declared.list.ListError.{ListError}
use Rattle.tcl_text.specs.declared.list.ListError.TheVariants as list
use Rattle.tcl_text.specs.declared.list.ListFault.{ListFault}
use Rattle.tcl_text.specs.declared.list.ListFault.TheVariants as fault
use Rattle.tcl_value.specs.declared.value.ValueError.{ValueError}
use Rattle.tcl_value.specs.declared.value.ValueError.TheVariants as value

-- the number of what a tree refuses
unfoldable pub tree_number : TreeError → ℤ
tree_number tree.BadName = pos 238
tree_number tree.BadCount = pos 245
tree_number tree.NoInterpreter = pos 301
tree_number tree.Exists = pos 302
tree_number tree.Denied = pos 304
tree_number tree.NoCommand = pos 305
tree_number tree.NoHidden = pos 306
tree_number tree.TooMany = pos 307
tree_number (tree.CountLimit n) = pos 308
tree_number (tree.DepthLimit n) = pos 308
tree_number tree.BadDepthLimit = pos 309
tree_number tree.Memory = pos 401

unfoldable pub number_of : Refusal → ℤ
number_of UnmatchedBrace = pos 101
number_of UnmatchedQuote = pos 102
number_of AfterBrace = pos 103
number_of AfterQuote = pos 104
number_of TooLong = pos 122
number_of NotUtf8 = pos 265
number_of NoFile = pos 267
number_of (Tree e) = tree_number e
number_of Memory = pos 401
number_of Broken = pos 402
number_of Nobody = pos 403
number_of CountTooLarge = pos 404
number_of Deleted = pos 411
number_of Waits = pos 412
number_of NothingHeld = pos 421
number_of AlreadyHeld = pos 422
number_of OtherKind = pos 423
number_of CallOpen = pos 424
number_of NoCallOpen = pos 425
number_of NoStyle = pos 426
number_of NoRecord = pos 427

-- what is said of what a tree refuses
abbrev pub tree_text : TreeError → Text
tree_text tree.BadName = codes "bad name"
tree_text tree.BadCount = codes "bad count"
tree_text tree.NoInterpreter = codes "could not find interpreter"
tree_text tree.Exists = codes "already exists"
tree_text tree.Denied = messages.denied
tree_text tree.NoCommand = codes "invalid command name"
tree_text tree.NoHidden = codes "invalid hidden command name"
tree_text tree.TooMany = messages.too_many
tree_text (tree.CountLimit n) = codes "a limit is exceeded"
tree_text (tree.DepthLimit n) = codes "a limit is exceeded"
tree_text tree.BadDepthLimit = messages.bad_depth_limit
tree_text tree.Memory = codes "out of memory"

abbrev pub text_of : Refusal → Text
text_of UnmatchedBrace = codes "unmatched open brace"
text_of UnmatchedQuote = codes "unmatched open quote"
text_of AfterBrace = codes "list element in braces followed by other text"
text_of AfterQuote = codes "list element in quotes followed by other text"
text_of TooLong = messages.too_long
text_of NotUtf8 = codes "not UTF-8"
text_of NoFile = codes "no such file"
text_of (Tree e) = tree_text e
text_of Memory = codes "out of memory"
text_of Broken = messages.tree_broken
text_of Nobody = messages.no_interpreter
text_of CountTooLarge = codes "the count of steps would pass its limit"
text_of Deleted = messages.watched_deleted
text_of Waits = messages.waits
text_of NothingHeld = codes "the handle holds nothing"
text_of AlreadyHeld = codes "the handle holds something already"
text_of OtherKind = codes "the handle holds something of another kind"
text_of CallOpen = messages.call_open
text_of NoCallOpen = codes "no call is open"
text_of NoStyle = codes "no such style of integers"
text_of NoRecord = codes "there is no record"

-- ## What errors become

abbrev pub of_fault : ListFault → Refusal
of_fault fault.UnmatchedBrace = UnmatchedBrace
of_fault fault.UnmatchedQuote = UnmatchedQuote
of_fault (fault.AfterBrace x) = AfterBrace
of_fault (fault.AfterQuote x) = AfterQuote

abbrev pub of_list : ListError → Refusal
of_list list.Memory = Memory
of_list (list.Fault f) = of_fault f

abbrev pub of_value : ValueError → Refusal
of_value value.Memory = Memory
of_value value.TooLong = TooLong

-- want of memory is the same wherever it comes from
abbrev pub of_tree : TreeError → Refusal
of_tree tree.Memory = Memory
of_tree e = Tree e

abbrev pub of_refused : Refused → Refusal
of_refused refused.Memory = Memory
of_refused refused.Broken = Broken
of_refused refused.NoInterpreter = Nobody
of_refused refused.CountTooLarge = CountTooLarge
of_refused refused.TooLong = TooLong

abbrev pub of_unplayed : Unplayed → Refusal
of_unplayed unplayed.Memory = Memory
of_unplayed unplayed.CountTooLarge = CountTooLarge
of_unplayed unplayed.Waits = Waits
