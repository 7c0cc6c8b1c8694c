use Rattle.std.proofs.Common.{◌≡◌, Some, sym, ◌∙◌, ap}
use Rattle.std.proofs.lemmas.Result.{on_ok_weaker}
use Rattle.std.specs.Option.{option_copied}
use Rattle.tcl_core.specs.Entries.Answer.{Replied}
use Rattle.tcl_core.specs.Paths.{Path}
use Rattle.tcl_core.specs.Execution.{event}
use Rattle.tcl_core.specs.Trees.What.{Back}
use Rattle.tcl_run.proofs.Endings.{Interrupts-more}
use Rattle.tcl_recorder.specs.Boundary.{passing}
use Rattle.tcl_recorder.specs.Records.{RecordView, longer}
use Rattle.tcl_recorder.proofs.Notes.{back_some}
use Rattle.tcl_recorder.proofs.record.Record.interruption_comes.Goals as goal

pub returns-in_ok-reply-in-Some : goal.returns-in_ok-reply-in-Some
returns-in_ok-reply-in-Some c =
    let p = c.args.caller.now in
    let h = c.args.up in
    let q = c.in-Some.path.now in
    let top : c.as_slice.result.now ≡ c.args.self.now.watched = c.as_slice.ensures.value ∙ ap (λ (r : RecordView). r.watched) c.self.view_is in
    let at : passing c.args.self.now.watched p h ≡ Some q = ap (λ (t : Path). passing t p h) (sym top) ∙ sym c.passing.ensures ∙ ap option_copied c.in-Some.is in
    on_ok_weaker c.add_answer.result
    (λ e. Interrupts-more c.args.interruption.now _ _ (λ x told. e ∙ ap (λ y. longer c.args.self.now (event q (Back h (Replied y)))) told ∙ back_some c.args.self.now p h (Replied x) q at) c.in_ok-reply-in-Some.ensures)
    c.add_answer.ensures
