use Rattle.std.proofs.Common.{◌<◌, ◌≤◌, ◌⊎◌, arith, length, inl, inr, sym, ap, ◌∙◌}
use Rattle.std.proofs.lemmas.Result.{err_from_is_err_and}
use Rattle.std.specs.Prelude.{[], ◌∷◌, codes}
use Rattle.tcl_core.specs.Paths.{Text}
use Rattle.tcl_language.specs.Faults.{wrong_args}
use Rattle.tcl_language.specs.Hosting.{open_file, opens}
use Rattle.tcl_run.specs.Ends.{failing}
use Rattle.tcl_run.proofs.Endings.{ended_err}
use Rattle.tcl_calls.specs.HostCalls.{IsOver}
use Rattle.tcl_text.proofs.Items.{one_item, two_items}
use Rattle.tcl_calls.proofs.Hosted.{not_opened, opens_named, opens_unnamed, over_as, over_err}
use Rattle.tcl_calls.proofs.host_calls.open_call.Goals.{in_default-via-then-args-lt1, in_default-via-else-args-lt1+else-args-lt2+else-args-lt3}
use Rattle.tcl_calls.proofs.host_calls.open_call.Goals as goal

pub returns-in_ok-text-in-len1 : goal.returns-in_ok-text-in-len1
returns-in_ok-text-in-len1 c =
    let is = one_item c.args.args.now c.file-item.result c.in-len1.len_at_least c.in-len1.len_below c.file-item.is in
    ap open_file is ∙ ap (λ (x : Text). opens x (codes "r")) (sym c.in_ok-text-in-len1.ensures)

pub returns-in_ok-name-in-len2 : goal.returns-in_ok-name-in-len2
returns-in_ok-name-in-len2 c =
    let is = two_items c.args.args.now c.file-item-then-args-lt3.result c.mode-item.result c.in-len2.len_at_least c.in-len2.len_below c.file-item-then-args-lt3.is c.mode-item.is in
    ap open_file is ∙ opens_named c.file-item-then-args-lt3.result c.in_ok-name-in-len2.name c.mode-item.result c.in_ok-word-in-len2.word c.in_ok-mode-in-len2.mode c.in_ok-name-in-len2.ensures c.in_ok-word-in-len2.ensures c.in_ok-mode-in-len2.ensures

pub returns-in_err-mode-in-len2 : goal.returns-in_err-mode-in-len2
returns-in_err-mode-in-len2 c =
    let is = two_items c.args.args.now c.file-item-then-args-lt3.result c.mode-item.result c.in-len2.len_at_least c.in-len2.len_below c.file-item-then-args-lt3.is c.mode-item.is in
    let p = err_from_is_err_and c.from_residual-in_err-mode-in-len2.result c.from_residual-in_err-mode-in-len2.ensures.1 in
    ended_err c.from_residual-in_err-mode-in-len2.result c.in_err-mode-in-len2.field-0.0 p.0 _ (IsOver (open_file (c.file-item-then-args-lt3.result ∷ c.mode-item.result ∷ []))) (IsOver (open_file c.args.args.now)) p.1 p.2
    (opens_unnamed c.file-item-then-args-lt3.result c.mode-item.result c.in_ok-word-in-len2.word c.in_err-mode-in-len2.field-0.0 c.in_ok-word-in-len2.ensures c.in_err-mode-in-len2.ensures) (λ e over. over_as (open_file c.args.args.now) _ e (ap open_file is) over)

pub returns-in_default : goal.returns-in_default
returns-in_default c =
    let other : (length c.args.args.now < 1) ⊎ (3 ≤ length c.args.args.now) = elim c.in_default.branch [
      | in_default-via-then-args-lt1 w ↦ inl (grind arith)
      | in_default-via-else-args-lt1+else-args-lt2+else-args-lt3 w ↦ inr (grind arith)
    ] in
    over_err (open_file c.args.args.now) (failing (wrong_args (codes "open name ?mode?"))) c.wrong_args.result (not_opened c.args.args.now other) c.wrong_args.ensures
