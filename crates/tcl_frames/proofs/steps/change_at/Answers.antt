use Rattle.std.proofs.Common.{get_or}
use Rattle.std.proofs.lemmas.Option.{slice_get-get_or}
use Rattle.std.proofs.lemmas.Result.{on_ok_weaker, IfErr-weaker}
use Rattle.tcl_frames.specs.Parts.{seen_part}
use Rattle.tcl_frames.specs.Faults.{Refuses}
use Rattle.tcl_frames.specs.Rebinding.{change_frame}
use Rattle.tcl_frames.specs.Changes.{change_levels}
use Rattle.tcl_frames.specs.Reached.{start, over}
use Rattle.tcl_frames.proofs.StepLemmas.{change_level, refuses_level}
use Rattle.tcl_frames.proofs.steps.change_at.Goals as goal

pub returns-clause-ok : goal.returns-clause-ok
returns-clause-ok c =
    let f = get_or c.args.frames.now c.args.level c.index-frames-level.result in
    let at = slice_get-get_or c.args.frames.now c.args.level c.index-frames-level.result c.requires in
    on_ok_weaker c.change.result (λ p. change_level c.args.change c.args.frames.now (over (start c.args.level c.args.base.now) (seen_part c.args.part)) f c.change.new.self c.args.name.now at p) c.change.ensures.ok

pub returns-clause-err : goal.returns-clause-err
returns-clause-err c =
    let f = get_or c.args.frames.now c.args.level c.index-frames-level.result in
    let at = slice_get-get_or c.args.frames.now c.args.level c.index-frames-level.result c.requires in
    IfErr-weaker c.change.result (λ e. Refuses e (change_frame c.args.change f c.args.base.now (seen_part c.args.part) c.args.name.now)) (λ e. Refuses e (change_levels c.args.change c.args.frames.now (over (start c.args.level c.args.base.now) (seen_part c.args.part)) c.args.name.now))
    (λ e p. refuses_level e c.args.change c.args.frames.now (over (start c.args.level c.args.base.now) (seen_part c.args.part)) f c.args.name.now at p) c.change.ensures.err
