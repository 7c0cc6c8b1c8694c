use Rattle.std.proofs.Common.{◌≡◌, ℕ, List, [], ◌∷◌, sym, ap, ◌∙◌}
use Rattle.std.specs.Prelude.{Ok, Err, codes}
use Rattle.tcl_frames.specs.Arrays.{is_found}
use Rattle.tcl_frames.specs.Chain.{array_at}
use Rattle.tcl_language.specs.Arrays as arrays
use Rattle.tcl_language.specs.Inspection.{answer}
use Rattle.tcl_language.specs.Instructions.{either}
use Rattle.tcl_run.proofs.Endings.{tells}
use Rattle.tcl_text.proofs.Items.{one_item}
use Rattle.tcl_commands.proofs.ArrayEnds.{by_words, done_acts, reads_fails, reads_gives}
use Rattle.tcl_commands.proofs.arrays.exists.Goals as goal

pub returns-in-Ok : goal.returns-in-Ok
returns-in-Ok c =
    let name = c.in_ok-name-in-len1.name in
    let args : c.args.args.now ≡ name ∷ [] =
    one_item c.args.args.now c.name-item.result c.in-len1.len_at_least c.in-len1.len_below c.name-item.is ∙ ap (λ (x : List ℕ). x ∷ []) (sym c.in_ok-name-in-len1.ensures) in
    by_words c.args.tree.now c.args.tree.now c.args.place arrays.exists c.args.args.now (name ∷ []) (Ok c.truth_value.result) args
    (reads_gives c.args.tree.now c.args.place (λ fs. is_found (array_at fs name)) answer c.frames_seen.result.now c.in-Ok.found c.args.tree.now (Ok c.truth_value.result) c.frames_seen.ensures c.in-Ok.ensures.ok
    (done_acts c.args.tree.now c.args.place c.truth_value.result (either c.in-Ok.found (codes "1") (codes "0")) c.truth_value.ensures))

pub returns-in-len1 : goal.returns-in-len1
returns-in-len1 c =
    let name = c.in_ok-name-in-len1.name in
    let args : c.args.args.now ≡ name ∷ [] =
    one_item c.args.args.now c.name-item.result c.in-len1.len_at_least c.in-len1.len_below c.name-item.is ∙ ap (λ (x : List ℕ). x ∷ []) (sym c.in_ok-name-in-len1.ensures) in
    by_words c.args.tree.now c.args.tree.now c.args.place arrays.exists c.args.args.now (name ∷ []) (Err c.frame_failure.result) args
    (reads_fails c.args.tree.now c.args.place (λ fs. is_found (array_at fs name)) answer c.frames_seen.result.now c.frame_failure.result c.frames_seen.ensures
    (tells c.in-Err.error (is_found (array_at c.frames_seen.result.now.frames name)) c.frame_failure.result c.in-Err.ensures.err c.frame_failure.ensures))
