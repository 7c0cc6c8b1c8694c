-- The texts of refusals.
use Rattle.std.specs.Prelude.{codes, ◌++◌}
use Rattle.tcl_core.specs.Paths.{Text}
use Rattle.tcl_text.specs.Messages as messages
use Rattle.tcl_interpreter.specs.declared.refusal.TreeError.{TreeError}
use Rattle.tcl_interpreter.specs.declared.refusal.TreeError.TheVariants.{Memory, BadName, BadCount}
use Rattle.tcl_interpreter.specs.declared.refusal.TreeError.TheVariants.{NoInterpreter, Exists}
use Rattle.tcl_interpreter.specs.declared.refusal.TreeError.TheVariants.{Denied, NoCommand}
use Rattle.tcl_interpreter.specs.declared.refusal.TreeError.TheVariants.{NoHidden, TooMany}
use Rattle.tcl_interpreter.specs.declared.refusal.TreeError.TheVariants.{CountLimit, DepthLimit}
use Rattle.tcl_interpreter.specs.declared.refusal.TreeError.TheVariants.{BadDepthLimit}

abbrev pub text_of : TreeError → Text → Text
text_of Memory x = codes "out of memory"
text_of BadName x = codes "bad name \"" ++ x ++ codes "\""
text_of BadCount x = codes "bad count \"" ++ x ++ codes "\""
text_of NoInterpreter x = codes "could not find interpreter \"" ++ x ++ codes "\""
text_of Exists x = codes "\"" ++ x ++ codes "\" already exists"
text_of Denied x = messages.denied
text_of NoCommand x = codes "invalid command name \"" ++ x ++ codes "\""
text_of NoHidden x = codes "invalid hidden command name \"" ++ x ++ codes "\""
text_of TooMany x = messages.too_many
text_of (CountLimit n) x = messages.count_limit
text_of (DepthLimit n) x = messages.depth_limit
text_of BadDepthLimit x = messages.bad_depth_limit
