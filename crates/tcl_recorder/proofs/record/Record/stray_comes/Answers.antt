use Rattle.std.proofs.Common.{◌≡◌, ◌∙◌, ℕ, false, [], length, sym, ap}
use Rattle.std.specs.Prelude.{◌==◌}
use Rattle.tcl_core.specs.Endings as endings
use Rattle.tcl_core.specs.Endings.{Reply}
use Rattle.tcl_core.specs.Endings.Reply.{Completed}
use Rattle.tcl_core.specs.Execution.{event}
use Rattle.tcl_core.specs.Trees.What.{Unfound}
use Rattle.tcl_core.specs.Paths.{Path}
use Rattle.tcl_run.specs.Entering.{whole_entry}
use Rattle.tcl_run.proofs.Endings.{IfEnded-all}
use Rattle.tcl_recorder.specs.Records.{RecordView}
use Rattle.tcl_recorder.specs.Recording.{crossed}
use Rattle.tcl_recorder.proofs.Notes.{unseen_below}
use Rattle.tcl_recorder.proofs.record.Record.stray_comes.Goals as goal

-- below the top it isn't seen
pub returns-then-not-is_empty : goal.returns-then-not-is_empty
returns-then-not-is_empty c =
    let r = c.args.self.now in
    let w = c.self.inside.watched in
    let same : w.items ≡ r.watched = ap (λ (q : RecordView). q.watched) c.self.view_is in
    let some : (length w.items == 0) ≡ false = ap (λ (n : ℕ). n == 0) (sym w.ok.0) ∙ sym c.is_empty.ensures ∙ c.if-not-is_empty.true in
    let below : (length r.watched == 0) ≡ false = ap (λ (p : Path). length p == 0) (sym same) ∙ some in
    let Kept : Reply → Type 0 = λ x. (y : endings.Completion) → x ≡ Completed y → r ≡ crossed r (event [] (Unfound c.args.target.now (whole_entry c.args.entry.now) y)) in
    IfEnded-all c.args.told.now Kept (λ x y e. unseen_below r c.args.target.now (whole_entry c.args.entry.now) y below)
