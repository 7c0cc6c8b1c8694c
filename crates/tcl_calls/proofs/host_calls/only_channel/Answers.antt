use Rattle.std.proofs.Common.{◌<◌, ◌≤◌, ◌⊎◌, arith, length, inl, inr, sym, ap, ◌∙◌}
use Rattle.tcl_language.specs.Faults.{wrong_args}
use Rattle.tcl_language.specs.Hosting.{on_channel}
use Rattle.tcl_run.specs.Ends.{failing}
use Rattle.tcl_run.proofs.Endings.{Interrupts-more}
use Rattle.tcl_text.proofs.Items.{one_item}
use Rattle.tcl_calls.proofs.Hosted.{not_only, over_by}
use Rattle.tcl_calls.proofs.host_calls.only_channel.Goals.{in_default-via-then-args-lt1, in_default-via-else-args-lt1+else-args-lt2}
use Rattle.tcl_calls.proofs.host_calls.only_channel.Goals as goal

pub returns-in_ok-text-in-len1-clause-named : goal.returns-in_ok-text-in-len1-clause-named
returns-in_ok-text-in-len1-clause-named c = λ form k.
    let is = one_item c.args.args.now c.channel-item.result c.in-len1.len_at_least c.in-len1.len_below c.channel-item.is in
    ap (on_channel form k) is ∙ ap k (sym c.in_ok-text-in-len1.ensures)

pub returns-in_default-clause-refused : goal.returns-in_default-clause-refused
returns-in_default-clause-refused c =
    let other : (length c.args.args.now < 1) ⊎ (2 ≤ length c.args.args.now) = elim c.in_default.branch [
      | in_default-via-then-args-lt1 w ↦ inl (grind arith)
      | in_default-via-else-args-lt1+else-args-lt2 w ↦ inr (grind arith)
    ] in
    Interrupts-more c.wrong_args.result _ _ (λ e h k. over_by (on_channel c.args.form.now k c.args.args.now) (failing (wrong_args c.args.form.now)) e (not_only c.args.form.now k c.args.args.now other) h) c.wrong_args.ensures
