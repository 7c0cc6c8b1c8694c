use Rattle.std.proofs.Common.{◌≡◌, sym, subst, Ok}
use Rattle.std.specs.Prelude.{OnOk, IfErr}
use Rattle.tcl_frames.specs.Faults.{Refuses}
use Rattle.tcl_frames.specs.Written.{seen}
use Rattle.tcl_frames.proofs.StepLemmas.{read_none, read_some, place_bad, change_bad_name, change_is}
use Rattle.tcl_frames.proofs.steps.change_in.Goals as goal

pub returns-in-None-clause-err : goal.returns-in-None-clause-err
returns-in-None-clause-err c =
    change_bad_name c.refused.result c.args.change c.args.frames.now c.args.name.now
    (place_bad c.args.frames.now c.args.name.now (read_none c.read_name.result c.as_str.result.now c.args.name.now c.read_name.ensures c.as_str.ensures c.in-None.is)) c.refused.ensures

pub returns-in-Some-clause-ok : goal.returns-in-Some-clause-ok
returns-in-Some-clause-ok c =
    let e = change_is c.args.change c.args.frames.now c.args.name.now (seen c.in-Some.written) c.level_meant-level.result
    (read_some c.read_name.result c.as_str.result.now c.args.name.now c.in-Some.written c.read_name.ensures c.as_str.ensures c.in-Some.is) c.level_meant-level.ensures in
    subst (λ z. OnOk c.change_from.result (z ≡ Ok c.change_from.new.frames)) (sym e) c.change_from.ensures.ok

pub returns-in-Some-clause-err : goal.returns-in-Some-clause-err
returns-in-Some-clause-err c =
    let e = change_is c.args.change c.args.frames.now c.args.name.now (seen c.in-Some.written) c.level_meant-level.result
    (read_some c.read_name.result c.as_str.result.now c.args.name.now c.in-Some.written c.read_name.ensures c.as_str.ensures c.in-Some.is) c.level_meant-level.ensures in
    subst (λ z. IfErr c.change_from.result (λ e. Refuses e z)) (sym e) c.change_from.ensures.err
