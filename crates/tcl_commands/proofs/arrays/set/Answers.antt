use Rattle.std.proofs.Common.{◌≡◌, ℕ, List, Bool, [], ◌∷◌, sym, ap, ◌∙◌}
use Rattle.std.specs.Prelude.{Err}
use Rattle.tcl_frames.specs.Arrays.{is_found}
use Rattle.tcl_frames.specs.Chain.{array_at}
use Rattle.tcl_language.specs.Arrays as arrays
use Rattle.tcl_run.proofs.Endings.{tells}
use Rattle.tcl_text.proofs.Items.{two_items}
use Rattle.tcl_commands.proofs.ArrayEnds.{by_words, reads_fails, reads_gives}
use Rattle.tcl_commands.proofs.arrays.set.Goals as goal

pub returns-in-Ok-clause-acts : goal.returns-in-Ok-clause-acts
returns-in-Ok-clause-acts c =
    let name = c.in_ok-name-in-len2.name in
    let list = c.list-item.result in
    let args : c.args.args.now ≡ name ∷ list ∷ [] =
    two_items c.args.args.now c.name-item.result list c.in-len2.len_at_least c.in-len2.len_below c.name-item.is c.list-item.is ∙ ap (λ (x : List ℕ). x ∷ list ∷ []) (sym c.in_ok-name-in-len2.ensures) in
    by_words c.args.tree.now c.set_list.new.tree c.args.place arrays.set c.args.args.now (name ∷ list ∷ []) c.set_list.result args
    (reads_gives c.args.tree.now c.args.place (λ fs. is_found (array_at fs name)) (λ found. arrays.sets_list name list) c.frames_seen.result.now c.in-Ok.field-0 c.set_list.new.tree c.set_list.result c.frames_seen.ensures c.in-Ok.ensures.ok
    c.set_list.ensures.acts)

pub returns-in-len2-clause-acts : goal.returns-in-len2-clause-acts
returns-in-len2-clause-acts c =
    let name = c.in_ok-name-in-len2.name in
    let list = c.list-item.result in
    let args : c.args.args.now ≡ name ∷ list ∷ [] =
    two_items c.args.args.now c.name-item.result list c.in-len2.len_at_least c.in-len2.len_below c.name-item.is c.list-item.is ∙ ap (λ (x : List ℕ). x ∷ list ∷ []) (sym c.in_ok-name-in-len2.ensures) in
    by_words c.args.tree.now c.args.tree.now c.args.place arrays.set c.args.args.now (name ∷ list ∷ []) (Err c.frame_failure.result) args
    (reads_fails c.args.tree.now c.args.place (λ fs. is_found (array_at fs name)) (λ (found : Bool). arrays.sets_list name list) c.frames_seen.result.now c.frame_failure.result c.frames_seen.ensures
    (tells c.in-Err.error (is_found (array_at c.frames_seen.result.now.frames name)) c.frame_failure.result c.in-Err.ensures.err c.frame_failure.ensures))
