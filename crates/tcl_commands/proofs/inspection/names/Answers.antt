use Rattle.std.proofs.Common.{◌≡◌, ℕ, List, ap, ◌∙◌}
use Rattle.tcl_language.specs.Inspection.{matching}
use Rattle.tcl_text.proofs.Items.{one_item, no_item}
use Rattle.tcl_commands.proofs.Telling.{names_all, names_matching}
use Rattle.tcl_commands.proofs.inspection.names.Goals as goal

pub returns-in_ok-names-in-empty : goal.returns-in_ok-names-in-empty
returns-in_ok-names-in-empty c =
    names_all c.args.tree.now c.args.place c.args.scope c.args.form.now c.args.args.now c.frames_seen.result.now c.as_slice.result.now c.list_value.result (no_item c.args.args.now c.in-empty.len_below)
    (c.as_slice.ensures.value ∙ c.in_ok-names-in-empty.ensures) c.frames_seen.ensures c.list_value.ensures

pub returns-in_ok-kept-in-len1 : goal.returns-in_ok-kept-in-len1
returns-in_ok-kept-in-len1 c =
    let pattern : c.as_str.result.now ≡ c.pattern-item.result = c.as_str.ensures ∙ c.in_ok-pattern-in-len1.ensures in
    names_matching c.args.tree.now c.args.place c.args.scope c.args.form.now c.args.args.now c.pattern-item.result c.frames_seen-in-len1.result.now c.as_slice-in-len1-2.result.now c.list_value-in-len1.result
    (one_item c.args.args.now c.pattern-item.result c.in-len1.len_at_least c.in-len1.len_below c.pattern-item.is)
    (c.as_slice-in-len1-2.ensures.value ∙ c.in_ok-kept-in-len1.ensures ∙ ap (λ (x : List ℕ). matching x c.as_slice-in-len1.result.now) pattern
    ∙ ap (matching c.pattern-item.result) (c.as_slice-in-len1.ensures.value ∙ c.in_ok-names-in-len1.ensures)) c.frames_seen-in-len1.ensures c.list_value-in-len1.ensures
