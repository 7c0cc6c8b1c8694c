use Rattle.std.proofs.Common.{◌∙◌, ◌<◌, ◌≤◌, ℕ, sym, ap, subst}
use Rattle.tcl_core.specs.Programs.{most_steps}
use Rattle.tcl_core.specs.Trees.{Node}
use Rattle.tcl_tree.specs.Own.{Own}
use Rattle.tcl_calls.proofs.Served.{limit_denied, limit_refused, limit_set}
use Rattle.tcl_calls.proofs.Standing.{limited_level}
use Rattle.tcl_calls.proofs.serving.limit_count.Goals as goal

pub returns-then-node-clause-acts : goal.returns-then-node-clause-acts
returns-then-node-clause-acts c = limit_denied c.args.tree.now c.args.place c.args.limit c.denied.result (λ p n at is. sym (ap (λ (m : Node Own). m.root) (c.node.ensures p n at is)) ∙ c.if-node.true) c.denied.ensures

pub returns-then-unwrap_or-gt-MOST_STEPS-clause-acts : goal.returns-then-unwrap_or-gt-MOST_STEPS-clause-acts
returns-then-unwrap_or-gt-MOST_STEPS-clause-acts c = limit_refused c.args.tree.now c.args.place c.args.limit c.count_failure.result (λ p n at is. sym (ap (λ (m : Node Own). m.root) (c.node.ensures p n at is)) ∙ c.if-node.false)
    (subst (λ (n : ℕ). most_steps < n) c.unwrap_or.ensures c.if-unwrap_or-gt-MOST_STEPS.true) c.count_failure.ensures

pub returns-clause-acts : goal.returns-clause-acts
returns-clause-acts c = limit_set c.args.tree.now c.set_limit_at.new.self c.args.place c.args.limit c.empty.result c.empty.ensures (λ p n at is. sym (ap (λ (m : Node Own). m.root) (c.node.ensures p n at is)) ∙ c.if-node.false) (subst (λ (n : ℕ). n ≤ most_steps) c.unwrap_or.ensures c.if-unwrap_or-gt-MOST_STEPS.false) c.set_limit_at.ensures.limited

pub returns-clause-level : goal.returns-clause-level
returns-clause-level c = limited_level c.args.tree.now c.set_limit_at.new.self c.args.place c.args.limit c.set_limit_at.ensures.marks c.set_limit_at.ensures.keys c.set_limit_at.ensures.held c.requires (λ p n at is. sym (ap (λ (m : Node Own). m.root) (c.node.ensures p n at is)) ∙ c.if-node.false) c.set_limit_at.ensures.limited
