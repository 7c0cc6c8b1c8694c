-- What setting a variable comes to.
use Rattle.std.specs.Prelude.{◌≡◌, Result, Ok, Err, MatchResult}
use Rattle.tcl_core.specs.Endings.Reply.{Completed}
use Rattle.tcl_core.specs.Paths.{Text}
use Rattle.tcl_frames.specs.Chain.{Chain, after_set}
use Rattle.tcl_frames.specs.declared.fault.FrameFault.{FrameFault}
use Rattle.tcl_language.specs.Faults.{frame_message}
use Rattle.tcl_run.specs.Ends.{Interrupts, failing}
use Rattle.tcl_run.specs.declared.interruption.Interruption.{Interruption}

-- A call set the variable to the text, and returned that; or the variable can't be set, which is
-- the error, and nothing changed; or memory ran out.
abbrev pub SetsTo : Chain → Text → Text → Chain → Result Text Interruption → Type 0
SetsTo old name value new result =
    MatchResult result (λ text. (text ≡ value) × (after_set old name value ≡ Ok new))
    (λ i. Interrupts i (λ e. (f : FrameFault) × (new ≡ old) × (after_set old name value ≡ Err f) ×
    (e ≡ Completed (failing (frame_message f)))))
