use Rattle.std.proofs.Common.{◌∙◌, true, false, length, take, drop, ◌-◌}
use Rattle.tcl_text.proofs.Items.{split_first}
use Rattle.tcl_interp.specs.Programs.{called_with, invokes}
use Rattle.tcl_interp.specs.Subjects.{about}
use Rattle.tcl_interp.proofs.Invoking.{called_more, refused_more, fails_as, global_call, plain_call}
use Rattle.tcl_interp.proofs.hidden.hidden_call.Goals as goal

pub returns-then-branch-clause-called : goal.returns-then-branch-clause-called
returns-then-branch-clause-called c =
    let rest = take (length c.args.args.now - 1) (drop 1 c.args.args.now) in
    let read = c.in_ok-reads_global-in-len1-up.ensures in
    called_more c.call_with.result _ _ (λ call h. global_call (about c.args.subject) c.args.args.now c.first-item.result rest (split_first c.args.args.now c.first-item.result c.in-len1-up.len_at_least c.first-item.is) (read.0 ∙ c.if-branch.true) (read.1 c.if-branch.true) ∙ h) c.call_with.ensures.called

pub returns-then-branch-clause-refused : goal.returns-then-branch-clause-refused
returns-then-branch-clause-refused c =
    let rest = take (length c.args.args.now - 1) (drop 1 c.args.args.now) in
    let read = c.in_ok-reads_global-in-len1-up.ensures in
    refused_more c.call_with.result _ _ (λ e h. fails_as (invokes (about c.args.subject) c.args.args.now) (called_with (about c.args.subject) true rest) e
    (global_call (about c.args.subject) c.args.args.now c.first-item.result rest (split_first c.args.args.now c.first-item.result c.in-len1-up.len_at_least c.first-item.is) (read.0 ∙ c.if-branch.true) (read.1 c.if-branch.true)) h) c.call_with.ensures.refused

pub returns-else-branch-clause-called : goal.returns-else-branch-clause-called
returns-else-branch-clause-called c =
    let rest = take (length c.args.args.now - 1) (drop 1 c.args.args.now) in
    let read = c.in_ok-reads_global-in-len1-up.ensures in
    called_more c.call_with-else-branch.result _ _ (λ call h. plain_call (about c.args.subject) c.args.args.now c.first-item.result rest (split_first c.args.args.now c.first-item.result c.in-len1-up.len_at_least c.first-item.is) (read.0 ∙ c.if-branch.false) ∙ h) c.call_with-else-branch.ensures.called

pub returns-else-branch-clause-refused : goal.returns-else-branch-clause-refused
returns-else-branch-clause-refused c =
    let rest = take (length c.args.args.now - 1) (drop 1 c.args.args.now) in
    let read = c.in_ok-reads_global-in-len1-up.ensures in
    refused_more c.call_with-else-branch.result _ _ (λ e h. fails_as (invokes (about c.args.subject) c.args.args.now) (called_with (about c.args.subject) false c.args.args.now) e
    (plain_call (about c.args.subject) c.args.args.now c.first-item.result rest (split_first c.args.args.now c.first-item.result c.in-len1-up.len_at_least c.first-item.is) (read.0 ∙ c.if-branch.false)) h) c.call_with-else-branch.ensures.refused
