use Rattle.std.proofs.Common.{◌∙◌}
use Rattle.trials.proofs.benches.tree.charge_often.Goals as goal

pub times-preserved : goal.times-preserved
times-preserved c = (c.times.invariant.0, c.charge_at.ensures.keys c.times.invariant.0 ∙ c.times.invariant.1)
