use Rattle.std.proofs.Common.{◌≡◌, sym, ap, subst, Ok}
use Rattle.std.specs.Prelude.{OnOk, IfErr}
use Rattle.tcl_frames.specs.Faults.{Refuses}
use Rattle.std.specs.Option.{option_copied}
use Rattle.tcl_frames.specs.Written.{seen}
use Rattle.tcl_frames.proofs.StepLemmas.{read_none, read_some, place_bad}
use Rattle.tcl_frames.proofs.KeyLemmas.{change_key_bad, key_coded, nested_coded}
use Rattle.tcl_frames.proofs.keys.change_key_in.Goals as goal

pub returns-in-None-clause-err : goal.returns-in-None-clause-err
returns-in-None-clause-err c =
    change_key_bad c.refused.result c.args.change c.args.frames.now c.args.name.now c.args.key.now
    (place_bad c.args.frames.now c.args.name.now (read_none c.read_name.result c.as_str.result.now c.args.name.now c.read_name.ensures c.as_str.ensures c.in-None.is)) c.refused.ensures

pub returns-in-None-key-clause-ok : goal.returns-in-None-key-clause-ok
returns-in-None-key-clause-ok c =
    let e = key_coded c.args.change c.args.frames.now c.args.name.now c.args.key.now (seen c.in-Some.written) c.level_meant-level.result c.as_str-in-None-key.result.now c.in_ok-told-in-Some.told
    (read_some c.read_name.result c.as_str.result.now c.args.name.now c.in-Some.written c.read_name.ensures c.as_str.ensures c.in-Some.is) c.level_meant-level.ensures
    (ap option_copied c.in-None-key.is) c.as_str-in-None-key.ensures c.in_ok-told-in-Some.ensures in
    subst (λ z. OnOk c.change_from.result (z ≡ Ok c.change_from.new.frames)) (sym e) c.change_from.ensures.ok

pub returns-in-None-key-clause-err : goal.returns-in-None-key-clause-err
returns-in-None-key-clause-err c =
    let e = key_coded c.args.change c.args.frames.now c.args.name.now c.args.key.now (seen c.in-Some.written) c.level_meant-level.result c.as_str-in-None-key.result.now c.in_ok-told-in-Some.told
    (read_some c.read_name.result c.as_str.result.now c.args.name.now c.in-Some.written c.read_name.ensures c.as_str.ensures c.in-Some.is) c.level_meant-level.ensures
    (ap option_copied c.in-None-key.is) c.as_str-in-None-key.ensures c.in_ok-told-in-Some.ensures in
    subst (λ z. IfErr c.change_from.result (λ e. Refuses e z)) (sym e) c.change_from.ensures.err

pub returns-clause-err : goal.returns-clause-err
returns-clause-err c =
    let e = nested_coded c.args.change c.args.frames.now c.args.name.now c.args.key.now (seen c.in-Some.written) c.level_meant-level.result c.in-Some-key.field-0.now c.in_ok-told-in-Some.told
    (read_some c.read_name.result c.as_str.result.now c.args.name.now c.in-Some.written c.read_name.ensures c.as_str.ensures c.in-Some.is) c.level_meant-level.ensures
    (ap option_copied c.in-Some-key.is) c.in_ok-told-in-Some.ensures in
    subst (λ z. IfErr c.change_at.result (λ e. Refuses e z)) (sym e) c.change_at.ensures.err

pub returns-clause-ok : goal.returns-clause-ok
returns-clause-ok c =
    let e = nested_coded c.args.change c.args.frames.now c.args.name.now c.args.key.now (seen c.in-Some.written) c.level_meant-level.result c.in-Some-key.field-0.now c.in_ok-told-in-Some.told
    (read_some c.read_name.result c.as_str.result.now c.args.name.now c.in-Some.written c.read_name.ensures c.as_str.ensures c.in-Some.is) c.level_meant-level.ensures
    (ap option_copied c.in-Some-key.is) c.in_ok-told-in-Some.ensures in
    subst (λ z. OnOk c.change_at.result (z ≡ Ok c.change_at.new.frames)) (sym e) c.change_at.ensures.ok
