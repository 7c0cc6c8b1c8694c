-- The numbers and texts of what isn't done.
use Rattle.std.specs.Prelude.{ℕ, ◌++◌, [], codes, decimal}
use Rattle.tcl_core.specs.Paths.{Text}
use Rattle.tcl_interpreter.specs.Refusals as tree
use Rattle.tcl_interpreter.specs.declared.refusal.TreeError.{TreeError}
use Rattle.tcl_interpreter.specs.declared.refusal.TreeError.TheVariants as tree_error
use Rattle.tcl_serve.specs.Names.{name_of, type_name, type_of}
use Rattle.tcl_serve.specs.declared.refusals.Refusal.{Refusal}
use Rattle.tcl_serve.specs.declared.refusals.Refusal.TheVariants.{Memory, NotUtf8, NotJson}
use Rattle.tcl_serve.specs.declared.refusals.Refusal.TheVariants.{NotObject, UnknownMessage}
use Rattle.tcl_serve.specs.declared.refusals.Refusal.TheVariants.{UnknownField, Missing}
use Rattle.tcl_serve.specs.declared.refusals.Refusal.TheVariants.{WrongType, OutOfRange, Nothing}
use Rattle.tcl_serve.specs.declared.refusals.Refusal.TheVariants.{CallOpen, NotOpen, EntryLimit}
use Rattle.tcl_serve.specs.declared.refusals.Refusal.TheVariants.{Root, Told, Tree, TooLong}
use Rattle.tcl_serve.specs.declared.refusals.Refusal.TheVariants.{Breaks, Broken, Nobody}
use Rattle.tcl_serve.specs.declared.refusals.Refusal.TheVariants.{TooManySteps, Deleted, Waits}
use Rattle.tcl_serve.specs.declared.refusals.Refusal.TheVariants.{NotText, LineTooLong, CutShort}
use Rattle.tcl_serve.specs.declared.refusals.Refusal.TheVariants.{Unreadable}
use Rattle.tcl_text.specs.Messages.{breaks_tree, call_open, no_interpreter, tree_broken, waits}
use Rattle.tcl_text.specs.Messages.{watched_deleted}
use Rattle.tcl_value.specs.declared.value.ValueError.{ValueError}
use Rattle.tcl_value.specs.declared.value.ValueError.TheVariants as value

-- ## Numbers

abbrev pub tree_number : TreeError → ℕ
tree_number tree_error.Memory = 500
tree_number tree_error.BadName = 238
tree_number tree_error.BadCount = 245
tree_number tree_error.NoInterpreter = 301
tree_number tree_error.Exists = 302
tree_number tree_error.Denied = 304
tree_number tree_error.NoCommand = 305
tree_number tree_error.NoHidden = 306
tree_number tree_error.TooMany = 307
tree_number (tree_error.CountLimit n) = 308
tree_number (tree_error.DepthLimit n) = 308
tree_number tree_error.BadDepthLimit = 309

abbrev pub number_of : Refusal → ℕ
number_of Memory = 500
number_of NotUtf8 = 501
number_of NotJson = 502
number_of NotObject = 503
number_of (UnknownMessage name) = 504
number_of (UnknownField name) = 505
number_of (Missing field) = 506
number_of (WrongType field) = 507
number_of (OutOfRange field) = 508
number_of (Nothing field n) = 509
number_of CallOpen = 510
number_of (NotOpen n) = 511
number_of EntryLimit = 512
number_of Root = 513
number_of LineTooLong = 514
number_of CutShort = 515
number_of Unreadable = 516
number_of (Told text) = 517
number_of (Tree error word) = tree_number error
number_of TooLong = 122
number_of Breaks = 401
number_of Broken = 402
number_of Nobody = 403
number_of TooManySteps = 404
number_of Deleted = 411
number_of Waits = 412
number_of (NotText name) = 265

-- ## What others answer

abbrev pub of_value : ValueError → Refusal
of_value value.Memory = Memory
of_value value.TooLong = TooLong

-- ## Texts

-- a name in quotation marks, and what stands before and behind it
abbrev pub about : Text → Text → Text → Text
about front name end = front ++ codes "\"" ++ name ++ codes "\"" ++ end

abbrev pub text_of : Refusal → Text
text_of Memory = codes "out of memory"
text_of NotUtf8 = codes "the line is not UTF-8"
text_of NotJson = codes "the line is not JSON"
text_of NotObject = codes "the line is not an object"
text_of (UnknownMessage name) = about (codes "unknown message ") name []
text_of (UnknownField name) = about (codes "unknown field ") name []
text_of (Missing field) = about (codes "the field ") (name_of field) (codes " is missing")
text_of (WrongType field) = about (codes "the field ") (name_of field)
    (codes " must be " ++ type_name (type_of field))
text_of (OutOfRange field) = about (codes "the field ") (name_of field) (codes " is out of range")
text_of (Nothing field n) = about
    (codes "nothing has the number " ++ decimal n ++ codes " of the field ") (name_of field) []
text_of CallOpen = call_open
text_of (NotOpen n) = codes "call " ++ decimal n ++ codes " is not open"
text_of EntryLimit = codes "an entry has no limit of its own"
text_of Root = codes "the root is neither made nor deleted"
text_of LineTooLong = codes "the line is longer than 67108864 bytes"
text_of CutShort = codes "the input ends inside a line"
text_of Unreadable = codes "the input can't be read"
text_of (Tree error word) = tree.text_of error word
text_of TooLong = codes "value longer than 16777216 bytes"
text_of Breaks = breaks_tree
text_of Broken = tree_broken
text_of Nobody = no_interpreter
text_of TooManySteps = codes "the count of steps would pass its limit"
text_of Deleted = watched_deleted
text_of Waits = waits
text_of (NotText name) = about [] name (codes " is not UTF-8")
text_of (Told text) = text
