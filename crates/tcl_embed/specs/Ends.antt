-- What is said of how runs ended.
use Rattle.std.specs.Fmt.{signed_decimal}
use Rattle.std.specs.Prelude.{ℤ, ◌++◌, codes}
use Rattle.tcl_core.specs.Paths.{Text}
use Rattle.tcl_eval.specs.declared.running.End.{End}
use Rattle.tcl_eval.specs.declared.running.End.TheVariants as end
use Rattle.tcl_eval.specs.declared.running.OpenEnd.{OpenEnd}
use Rattle.tcl_eval.specs.declared.running.OpenEnd.TheVariants as open_end
use Rattle.tcl_flow.specs.declared.completion.Completion.{Completion}
use Rattle.tcl_flow.specs.declared.stop.StopKind.{StopKind}
use Rattle.tcl_flow.specs.declared.stop.StopKind.TheVariants as stop
use Rattle.tcl_text.specs.Messages as messages

-- the text of a stop
abbrev pub limit_text : StopKind → Text
limit_text stop.Count = messages.count_limit
limit_text stop.Depth = messages.depth_limit
limit_text stop.Gone = codes "interpreter was deleted"

-- a code and a text
abbrev pub code_text : ℤ → Text → Text
code_text code text = codes "code " ++ signed_decimal code ++ codes ": " ++ text

abbrev pub completion_text : Completion → Text
completion_text c = code_text c.code c.text

-- how a run ended
abbrev pub end_text : End → Text
end_text (end.Done c) = completion_text c
end_text (end.Stopped kind) = codes "stopped: " ++ limit_text kind
end_text (end.Exit n) = codes "exit " ++ signed_decimal n

-- the same of an open run, which its outside may have ended
abbrev pub open_end_text : OpenEnd → Text
open_end_text (open_end.Ran e) = end_text e
open_end_text open_end.CutOff = codes "cut off"
