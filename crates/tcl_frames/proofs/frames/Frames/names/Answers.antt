use Rattle.std.proofs.Common.{◌∙◌, sym, ap}
use Rattle.std.proofs.lemmas.Result.{IfOk-weaker}
use Rattle.tcl_frames.specs.Places.{Levels}
use Rattle.tcl_frames.specs.Chain.{Chain, names_of, names_held, variables_at}
use Rattle.tcl_frames.proofs.NamesLemmas.{visible_is, global_is}
use Rattle.tcl_frames.proofs.frames.Frames.names.Goals as goal

pub returns-in-Visible : goal.returns-in-Visible
returns-in-Visible c =
    let fs = c.args.self.now.frames in
    let same = c.as_slice-frames.ensures.value ∙ ap (λ (d : Chain). d.frames) c.self.view_is in
    IfOk-weaker c.names_at.result _ _ (λ v e. e ∙ ap (λ (gs : Levels). names_held gs c.level.result (variables_at gs c.level.result)) same ∙ visible_is fs c.level.result c.level.ensures ∙ ap (λ s. names_of s fs) (sym c.in-Visible.is)) c.names_at.ensures

pub returns-in-Global : goal.returns-in-Global
returns-in-Global c =
    let fs = c.args.self.now.frames in
    let same = c.as_slice-frames.ensures.value ∙ ap (λ (d : Chain). d.frames) c.self.view_is in
    IfOk-weaker c.names_at-in-Global.result _ _ (λ v e. e ∙ ap (λ (gs : Levels). names_held gs 0 (variables_at gs 0)) same ∙ global_is fs ∙ ap (λ s. names_of s fs) (sym c.in-Global.is)) c.names_at-in-Global.ensures
