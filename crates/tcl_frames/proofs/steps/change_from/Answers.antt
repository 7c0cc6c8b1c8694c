use Rattle.std.proofs.Common.{◌≡◌, ◌<◌, length, sym, ◌∙◌, subst, Ok}
use Rattle.std.specs.Prelude.{OnOk, IfErr}
use Rattle.std.specs.Option.{option_copied}
use Rattle.std.proofs.lemmas.Option.{MatchOption-at_none, MatchOption-at_some}
use Rattle.tcl_frames.specs.Variables.{Part, part_of}
use Rattle.tcl_frames.specs.Faults.{Refuses}
use Rattle.tcl_frames.specs.Changes.{change_levels, IsChangedThere}
use Rattle.tcl_frames.specs.Reached.{start, over}
use Rattle.tcl_frames.specs.Sound.{AreFit}
use Rattle.tcl_frames.specs.Targets.{ended}
use Rattle.tcl_frames.specs.Places.{Levels}
use Rattle.tcl_frames.proofs.StepLemmas.{changed_there, refused_there, changed_at_end, target_within}
use Rattle.tcl_frames.proofs.steps.change_from.Goals as goal

pub returns-in-Ok-None-clause-ok : goal.returns-in-Ok-None-clause-ok
returns-in-Ok-None-clause-ok c =
    changed_there c.args.change c.args.frames.now c.change_unlinked.new.frames c.args.level c.args.base.now c.args.name.now (part_of (option_copied c.args.key))
    (subst (λ (r : Part). IsChangedThere c.args.change c.args.frames.now (over (start c.args.level c.args.base.now) r) c.args.name.now c.change_unlinked.new.frames) c.part_written.ensures (MatchOption-at_none _ _ c.in-Ok-None.field-0-is c.in-Ok-None.ensures.ok))

pub returns-in-Err-clause-err : goal.returns-in-Err-clause-err
returns-in-Err-clause-err c =
    refused_there c.in-Err.error c.args.change c.args.frames.now c.args.level c.args.base.now c.args.name.now (part_of (option_copied c.args.key)) c.in-Err.ensures.err.0
    (subst (λ (r : Part). Refuses c.in-Err.error (change_levels c.args.change c.args.frames.now (over (start c.args.level c.args.base.now) r) c.args.name.now)) c.part_written.ensures c.in-Err.ensures.err.1)

pub change_at-requires : goal.change_at-requires
change_at-requires c =
    let back = MatchOption-at_some _ _ c.in-Ok-Some.change c.in-Ok-Some.field-0-is c.in-Ok-Some.ensures.ok in
    let fit = subst (AreFit 0) (sym back.1) c.requires.fit in
    let within = subst (λ (fs : Levels). c.args.level < length fs) (sym back.1) c.requires.within in
    target_within c.change_unlinked.new.frames fit c.args.level c.args.base.now (part_of (option_copied c.args.key)) (ended c.end_or-at.result) within
    (c.in_ok-end-in-Ok-Some.ensures ∙ sym c.end_or-at.ensures)

pub returns-in_ok-end-in-Ok-Some-clause-ok : goal.returns-in_ok-end-in-Ok-Some-clause-ok
returns-in_ok-end-in-Ok-Some-clause-ok c =
    let back = MatchOption-at_some _ _ c.in-Ok-Some.change c.in-Ok-Some.field-0-is c.in-Ok-Some.ensures.ok in
    let e = changed_at_end c.args.change c.in-Ok-Some.change c.args.frames.now c.change_unlinked.new.frames (over (start c.args.level c.args.base.now) (part_of (option_copied c.args.key))) (ended c.end_or-at.result) c.args.name.now back.0 back.1
    (c.in_ok-end-in-Ok-Some.ensures ∙ sym c.end_or-at.ensures) in
    subst (λ z. OnOk c.change_at.result (z ≡ Ok c.change_at.new.frames)) (sym e) c.change_at.ensures.ok

pub returns-in_ok-end-in-Ok-Some-clause-err : goal.returns-in_ok-end-in-Ok-Some-clause-err
returns-in_ok-end-in-Ok-Some-clause-err c =
    let back = MatchOption-at_some _ _ c.in-Ok-Some.change c.in-Ok-Some.field-0-is c.in-Ok-Some.ensures.ok in
    let e = changed_at_end c.args.change c.in-Ok-Some.change c.args.frames.now c.change_unlinked.new.frames (over (start c.args.level c.args.base.now) (part_of (option_copied c.args.key))) (ended c.end_or-at.result) c.args.name.now back.0 back.1
    (c.in_ok-end-in-Ok-Some.ensures ∙ sym c.end_or-at.ensures) in
    subst (λ z. IfErr c.change_at.result (λ e. Refuses e z)) (sym e) c.change_at.ensures.err
