use Rattle.std.proofs.Common.{inl, rules, refl, ap, ◌∙◌}
use Rattle.std.specs.Prelude.{Err}
use Rattle.tcl_core.specs.Endings.{ok}
use Rattle.tcl_flow.specs.View.{completion_of}
use Rattle.tcl_run.specs.Ends.{Interrupts}
use Rattle.tcl_calls.specs.Collecting.{EndsTurn}
use Rattle.tcl_calls.proofs.Gathering.{ends_in, ends_in_text, gathered, kept_with}
use Rattle.tcl_calls.proofs.collecting.collects.Goals as goal

pub returns-in-Ok : goal.returns-in-Ok
returns-in-Ok c =
    gathered c.args.ended (ok c.in-Ok.value) c.args.made.now c.keep.new.made c.keep.result (ends_in_text c.args.ended c.in-Ok.value c.in-Ok.is)
    (kept_with (ok c.in-Ok.value) c.args.made.now c.keep.new.made c.in-Ok.value c.keep.result refl refl c.keep.ensures)

pub returns-in-Err-Completed : goal.returns-in-Err-Completed
returns-in-Err-Completed c =
    gathered c.args.ended (completion_of c.in-Err-Completed.completion.value) c.args.made.now c.collects_completed.new.made c.collects_completed.result
    (ends_in c.args.ended c.in-Err-Completed.completion (c.in-Err-Completed.is ∙ ap Err c.in-Err-Completed.field-0-is)) c.collects_completed.ensures

pub returns-in-Err : goal.returns-in-Err
returns-in-Err c =
    let turn : Interrupts c.in-Err.interruption (EndsTurn c.args.made.now) = search rules in
    inl (c.in-Err.is, turn)
