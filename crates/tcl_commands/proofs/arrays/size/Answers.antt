use Rattle.std.proofs.Common.{◌≡◌, ℕ, List, [], ◌∷◌, length, sym, ap, ◌∙◌}
use Rattle.std.specs.Prelude.{Ok, Err}
use Rattle.std.specs.Fmt.{decimal}
use Rattle.tcl_core.specs.Endings.{ok}
use Rattle.tcl_core.specs.Programs.Prog.{done}
use Rattle.tcl_frames.specs.Arrays.{of_elements}
use Rattle.tcl_frames.specs.Chain.{array_at}
use Rattle.tcl_language.specs.Arrays as arrays
use Rattle.tcl_run.proofs.Endings.{tells}
use Rattle.tcl_text.proofs.Items.{one_item}
use Rattle.tcl_commands.proofs.ArrayEnds.{by_words, done_acts, reads_fails, reads_gives}
use Rattle.tcl_commands.proofs.arrays.size.Goals as goal

pub returns-in-Ok : goal.returns-in-Ok
returns-in-Ok c =
    let name = c.in_ok-name-in-len1.name in
    let value = c.in_ok-number_value-in-Ok.field-0 in
    let args : c.args.args.now ≡ name ∷ [] =
    one_item c.args.args.now c.name-item.result c.in-len1.len_at_least c.in-len1.len_below c.name-item.is ∙ ap (λ (x : List ℕ). x ∷ []) (sym c.in_ok-name-in-len1.ensures) in
    by_words c.args.tree.now c.args.tree.now c.args.place arrays.size c.args.args.now (name ∷ []) (Ok value) args
    (reads_gives c.args.tree.now c.args.place (λ fs. of_elements length (array_at fs name)) (λ count. done (ok (decimal count))) c.frames_seen.result.now c.in-Ok.count c.args.tree.now (Ok value) c.frames_seen.ensures c.in-Ok.ensures.ok
    (done_acts c.args.tree.now c.args.place value (decimal c.in-Ok.count) c.in_ok-number_value-in-Ok.ensures))

pub returns-in-len1 : goal.returns-in-len1
returns-in-len1 c =
    let name = c.in_ok-name-in-len1.name in
    let args : c.args.args.now ≡ name ∷ [] =
    one_item c.args.args.now c.name-item.result c.in-len1.len_at_least c.in-len1.len_below c.name-item.is ∙ ap (λ (x : List ℕ). x ∷ []) (sym c.in_ok-name-in-len1.ensures) in
    by_words c.args.tree.now c.args.tree.now c.args.place arrays.size c.args.args.now (name ∷ []) (Err c.frame_failure.result) args
    (reads_fails c.args.tree.now c.args.place (λ fs. of_elements length (array_at fs name)) (λ count. done (ok (decimal count))) c.frames_seen.result.now c.frame_failure.result c.frames_seen.ensures
    (tells c.in-Err.error (of_elements length (array_at c.frames_seen.result.now.frames name)) c.frame_failure.result c.in-Err.ensures.err c.frame_failure.ensures))
