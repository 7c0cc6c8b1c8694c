use Rattle.std.proofs.Common.{◌≡◌, ◌++◌, Some, None, length, sym, ◌∙◌, ap}
use Rattle.std.proofs.lemmas.Result.{on_ok_weaker}
use Rattle.std.specs.Option.{option_copied}
use Rattle.tcl_core.specs.Paths.{Path}
use Rattle.tcl_core.specs.Endings.{Reply}
use Rattle.tcl_core.specs.Execution.{event}
use Rattle.tcl_core.specs.Trees.{seen_reply}
use Rattle.tcl_core.specs.Trees.What.{Done}
use Rattle.tcl_run.proofs.Endings.{IfEnded-all, IfEnded-more}
use Rattle.tcl_recorder.specs.Boundary.{passing}
use Rattle.tcl_recorder.specs.Records.{RecordView, longer}
use Rattle.tcl_recorder.specs.Recording.{crossed}
use Rattle.tcl_recorder.proofs.Notes.{done_none, done_some}
use Rattle.tcl_recorder.proofs.record.Record.call_ends.Goals as goal

pub returns-in-Some : goal.returns-in-Some
returns-in-Some c =
    let p = c.args.from.now ++ c.args.down.now in
    let h = Some (length c.args.down.now) in
    let top : c.as_slice.result.now ≡ c.args.self.now.watched = c.as_slice.ensures.value ∙ ap (λ (r : RecordView). r.watched) c.self.view_is in
    let at : passing c.args.self.now.watched p h ≡ Some c.in-Some.path.now = ap (λ (t : Path). passing t p h) (sym top) ∙ sym c.arriving.ensures ∙ ap option_copied c.in-Some.is in
    let was : Reply → Type 0 = λ x. c.add_end.new.self ≡ longer c.args.self.now (event c.in-Some.path.now (Done None (seen_reply c.in-Some.path.now x))) in
    let is : Reply → Type 0 = λ x. c.add_end.new.self ≡ crossed c.args.self.now (event p (Done h x)) in
    on_ok_weaker c.add_end.result (IfEnded-more c.args.ended.now was is (λ x e. e ∙ done_some c.args.self.now p h x c.in-Some.path.now at)) c.add_end.ensures

pub returns-in-None : goal.returns-in-None
returns-in-None c =
    let p = c.args.from.now ++ c.args.down.now in
    let h = Some (length c.args.down.now) in
    let top : c.as_slice.result.now ≡ c.args.self.now.watched = c.as_slice.ensures.value ∙ ap (λ (r : RecordView). r.watched) c.self.view_is in
    IfEnded-all c.args.ended.now _ (λ x. done_none c.args.self.now p h x (ap (λ (t : Path). passing t p h) (sym top) ∙ sym c.arriving.ensures ∙ ap option_copied c.in-None.is))
