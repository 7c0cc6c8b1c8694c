use Rattle.std.proofs.Common.{◌≡◌, List, ℕ, ℤ, ap, subst, ◌∙◌}
use Rattle.tcl_core.specs.Endings.Reply.{Completed}
use Rattle.tcl_frames.specs.Places.{current}
use Rattle.tcl_language.specs.Faults.{bad_level}
use Rattle.tcl_language.specs.Inspection.{numbered}
use Rattle.tcl_lists.specs.Lists.{list_of}
use Rattle.tcl_run.specs.Ends.{Interrupts, failing}
use Rattle.tcl_commands.specs.Calls.{words_numbered}
use Rattle.tcl_commands.proofs.Setting.{handed}
use Rattle.tcl_commands.proofs.Telling.{call_acts, call_fails}
use Rattle.tcl_commands.proofs.inspection.call_words.Goals as goal

pub returns-in-Some : goal.returns-in-Some
returns-in-Some c =
    let same_number = ap (λ (z : ℤ). words_numbered (numbered (current c.frames_seen.result.now.frames) z) c.frames_seen.result.now.frames) (handed c.args.number c.ranges.number) in
    call_acts c.args.tree.now c.args.place c.args.word.now c.args.number c.frames_seen.result.now c.in-Some.words.now c.answered.result (c.in-Some.ensures ∙ same_number) c.frames_seen.ensures
    (c.answered.ensures (list_of c.in-Some.words.now) c.list.ensures)

pub returns-in_ok-text-in-None : goal.returns-in_ok-text-in-None
returns-in_ok-text-in-None c =
    let same_number = ap (λ (z : ℤ). words_numbered (numbered (current c.frames_seen.result.now.frames) z) c.frames_seen.result.now.frames) (handed c.args.number c.ranges.number) in
    let same : c.as_str.result.now ≡ c.args.word.now = c.as_str.ensures ∙ c.in_ok-text-in-None.ensures in
    call_fails c.args.tree.now c.args.place c.args.word.now c.args.number c.frames_seen.result.now c.bad_level.result (c.in-None.ensures ∙ same_number) c.frames_seen.ensures
    (subst (λ (x : List ℕ). Interrupts c.bad_level.result (λ e. e ≡ Completed (failing (bad_level x)))) same c.bad_level.ensures)
