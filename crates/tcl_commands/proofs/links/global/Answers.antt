use Rattle.std.proofs.Common.{◌∙◌}
use Rattle.tcl_commands.proofs.Linking.{global_acts}
use Rattle.tcl_commands.proofs.links.global.Goals as goal

pub returns-clause-acts : goal.returns-clause-acts
returns-clause-acts c =
    global_acts c.args.tree.now c.global_all.new.tree c.args.place c.args.args.now c.frames_seen.result.now c.global_all.result
    (λ e. c.if-level-eq0.false (c.level.ensures ∙ e)) c.frames_seen.ensures c.global_all.ensures.acts
