use Rattle.std.proofs.Common.{◌≡◌, ◌++◌, Some, length, sym, ◌∙◌, ap}
use Rattle.std.proofs.lemmas.Result.{on_ok_weaker}
use Rattle.std.specs.Option.{option_copied}
use Rattle.tcl_core.specs.Paths.{Path}
use Rattle.tcl_run.specs.Entering.{whole_entry}
use Rattle.tcl_recorder.specs.Boundary.{passing}
use Rattle.tcl_recorder.specs.Records.{RecordView}
use Rattle.tcl_recorder.proofs.Notes.{in_none, in_some}
use Rattle.tcl_recorder.proofs.record.Record.call_comes.Goals as goal

pub returns-in-Some : goal.returns-in-Some
returns-in-Some c =
    let p = c.args.from.now ++ c.args.down.now in
    let h = Some (length c.args.down.now) in
    let top : c.as_slice.result.now ≡ c.args.self.now.watched = c.as_slice.ensures.value ∙ ap (λ (r : RecordView). r.watched) c.self.view_is in
    let at : passing c.args.self.now.watched p h ≡ Some c.in-Some.path.now = ap (λ (t : Path). passing t p h) (sym top) ∙ sym c.arriving.ensures ∙ ap option_copied c.in-Some.is in
    on_ok_weaker c.add_entry.result (λ e. e ∙ in_some c.args.self.now p h (whole_entry c.args.entry.now) c.in-Some.path.now at) c.add_entry.ensures

pub returns-in-None : goal.returns-in-None
returns-in-None c =
    let p = c.args.from.now ++ c.args.down.now in
    let h = Some (length c.args.down.now) in
    let top : c.as_slice.result.now ≡ c.args.self.now.watched = c.as_slice.ensures.value ∙ ap (λ (r : RecordView). r.watched) c.self.view_is in
    in_none c.args.self.now p h (whole_entry c.args.entry.now) (ap (λ (t : Path). passing t p h) (sym top) ∙ sym c.arriving.ensures ∙ ap option_copied c.in-None.is)
