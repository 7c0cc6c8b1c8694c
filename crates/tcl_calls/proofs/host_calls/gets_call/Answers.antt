use Rattle.std.proofs.Common.{◌<◌, ◌≤◌, ◌⊎◌, arith, length, inl, inr, sym, ap, ◌∙◌}
use Rattle.std.specs.Prelude.{codes}
use Rattle.tcl_language.specs.Faults.{wrong_args}
use Rattle.tcl_language.specs.Hosting.{gets, reads_line, reads_line_into}
use Rattle.tcl_run.specs.Ends.{failing}
use Rattle.tcl_text.proofs.Items.{one_item, two_items}
use Rattle.tcl_calls.proofs.Hosted.{not_got, over_err}
use Rattle.tcl_calls.proofs.host_calls.gets_call.Goals.{in_default-via-then-args-lt1, in_default-via-else-args-lt1+else-args-lt2+else-args-lt3}
use Rattle.tcl_calls.proofs.host_calls.gets_call.Goals as goal

pub returns-in_ok-text-in-len1 : goal.returns-in_ok-text-in-len1
returns-in_ok-text-in-len1 c =
    let is = one_item c.args.args.now c.channel-item.result c.in-len1.len_at_least c.in-len1.len_below c.channel-item.is in
    ap gets is ∙ ap reads_line (sym c.in_ok-text-in-len1.ensures)

pub returns-in_ok-clone-in-len2 : goal.returns-in_ok-clone-in-len2
returns-in_ok-clone-in-len2 c =
    let is = two_items c.args.args.now c.channel-item-then-args-lt3.result c.name-item.result c.in-len2.len_at_least c.in-len2.len_below c.channel-item-then-args-lt3.is c.name-item.is in
    let name = c.in_ok-clone-in-len2.ensures.cases in
    ap gets is ∙ (λ i. reads_line_into (sym c.in_ok-text-in-len2.ensures i) (sym name i))

pub returns-in_default : goal.returns-in_default
returns-in_default c =
    let other : (length c.args.args.now < 1) ⊎ (3 ≤ length c.args.args.now) = elim c.in_default.branch [
      | in_default-via-then-args-lt1 w ↦ inl (grind arith)
      | in_default-via-else-args-lt1+else-args-lt2+else-args-lt3 w ↦ inr (grind arith)
    ] in
    over_err (gets c.args.args.now) (failing (wrong_args (codes "gets channel ?varName?"))) c.wrong_args.result (not_got c.args.args.now other) c.wrong_args.ensures
