use Rattle.std.proofs.Common.{◌≡◌, ℕ, List, [], ◌∷◌, sym, ap, ◌∙◌}
use Rattle.tcl_frames.specs.Chain.{exists_at}
use Rattle.tcl_run.proofs.Endings.{tells}
use Rattle.tcl_text.proofs.Items.{one_item}
use Rattle.tcl_commands.proofs.Telling.{exists_ends, exists_fails}
use Rattle.tcl_commands.proofs.inspection.exists.Goals as goal

pub returns-in-Ok : goal.returns-in-Ok
returns-in-Ok c =
    let args : c.args.args.now ≡ c.in_ok-name-in-len1.name ∷ [] =
    one_item c.args.args.now c.name-item.result c.in-len1.len_at_least c.in-len1.len_below c.name-item.is ∙ ap (λ (x : List ℕ). x ∷ []) (sym c.in_ok-name-in-len1.ensures) in
    exists_ends c.args.tree.now c.args.place c.args.args.now c.in_ok-name-in-len1.name c.truth_value.result c.frames_seen.result.now c.in-Ok.held args c.frames_seen.ensures c.in-Ok.ensures.ok c.truth_value.ensures

pub returns-in-len1 : goal.returns-in-len1
returns-in-len1 c =
    let args : c.args.args.now ≡ c.in_ok-name-in-len1.name ∷ [] =
    one_item c.args.args.now c.name-item.result c.in-len1.len_at_least c.in-len1.len_below c.name-item.is ∙ ap (λ (x : List ℕ). x ∷ []) (sym c.in_ok-name-in-len1.ensures) in
    exists_fails c.args.tree.now c.args.place c.args.args.now c.in_ok-name-in-len1.name c.frames_seen.result.now c.frame_failure.result args c.frames_seen.ensures
    (tells c.in-Err.error (exists_at c.frames_seen.result.now.frames c.in_ok-name-in-len1.name) c.frame_failure.result c.in-Err.ensures.err c.frame_failure.ensures)
