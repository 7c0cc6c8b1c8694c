use Rattle.std.proofs.Common.{sym, ◌∙◌}
use Rattle.tcl_replay.proofs.Serving.{serves}
use Rattle.tcl_replay.proofs.replaying.serve_there.Goals as goal

pub returns-clause-serves : goal.returns-clause-serves
returns-clause-serves c = serves _ c.args.tree.now c.enter-ended.new.tree c.args.player.now c.enter-ended.new.outside c.notify.new.self c.args.path.now _ c.enter-ended.result c.args.place
    c.notify.result c.requires.there (sym c.is_want.ensures ∙ c.if-is_want.false) c.enter-ended.ensures.runs c.notify.ensures.told
