use Rattle.std.proofs.Common.{◌≡◌, get_or, false, None}
use Rattle.std.proofs.lemmas.Option.{slice_get-get_or}
use Rattle.std.proofs.lemmas.Result.{IfErr-weaker}
use Rattle.std.specs.Map.{lookup}
use Rattle.std.specs.Str.{bytes_eq}
use Rattle.tcl_frames.specs.Parts.{seen_part}
use Rattle.tcl_frames.specs.Access.{is_linked}
use Rattle.tcl_frames.specs.Faults.{Refuses}
use Rattle.tcl_frames.specs.Rebinding.{change_frame}
use Rattle.tcl_frames.specs.Changes.{change_levels}
use Rattle.tcl_frames.specs.Places.{bound}
use Rattle.tcl_frames.specs.Reached.{start, over, link_of}
use Rattle.tcl_frames.proofs.StepLemmas.{unlinked_level, change_unlinked_level, refuses_level}
use Rattle.tcl_frames.proofs.steps.change_unlinked.Goals as goal

pub returns-clause-ok : goal.returns-clause-ok
returns-clause-ok c =
    let f = get_or c.args.frames.now c.args.level c.index-frames-level.result in
    let at = slice_get-get_or c.args.frames.now c.args.level c.index-frames-level.result c.requires in
    change_unlinked_level c.args.change c.args.frames.now (over (start c.args.level c.args.base.now) (seen_part c.args.part)) f c.change_unlinked.new.self c.args.name.now c.change_unlinked.result at c.change_unlinked.ensures.ok

pub returns-clause-err : goal.returns-clause-err
returns-clause-err c =
    let f = get_or c.args.frames.now c.args.level c.index-frames-level.result in
    let at = slice_get-get_or c.args.frames.now c.args.level c.index-frames-level.result c.requires in
    IfErr-weaker c.change_unlinked.result (λ e. (is_linked (lookup (bytes_eq c.args.base.now) f.variables) ≡ false) × Refuses e (change_frame c.args.change f c.args.base.now (seen_part c.args.part) c.args.name.now))
    (λ e. (link_of (bound c.args.frames.now c.args.level c.args.base.now) ≡ None) × Refuses e (change_levels c.args.change c.args.frames.now (over (start c.args.level c.args.base.now) (seen_part c.args.part)) c.args.name.now))
    (λ e p. (unlinked_level c.args.frames.now c.args.level c.args.base.now f at p.0, refuses_level e c.args.change c.args.frames.now (over (start c.args.level c.args.base.now) (seen_part c.args.part)) f c.args.name.now at p.1)) c.change_unlinked.ensures.err
