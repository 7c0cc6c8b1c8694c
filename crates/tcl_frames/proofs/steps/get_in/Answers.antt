use Rattle.std.proofs.Common.{◌≡◌, sym, subst, Ok}
use Rattle.std.specs.Prelude.{IfOk, IfErr}
use Rattle.std.proofs.lemmas.Result.{err_from_is_err_and}
use Rattle.tcl_frames.specs.Faults.{Refuses}
use Rattle.tcl_frames.proofs.StepLemmas.{read_bad_name, read_whole, read_key}
use Rattle.tcl_frames.proofs.steps.get_in.Goals as goal

pub returns-in_err-looked-clause-err : goal.returns-in_err-looked-clause-err
returns-in_err-looked-clause-err c =
    let p = err_from_is_err_and c.from_residual.result c.from_residual.ensures.1 in
    rw (p.1, p.2) (read_bad_name c.args.frames.now c.args.name.now c.in_err-looked.field-0.0 c.in_err-looked.ensures.err.0 c.in_err-looked.ensures.err.1)

pub returns-in-None-clause-ok : goal.returns-in-None-clause-ok
returns-in-None-clause-ok c =
    subst (λ z. IfOk c.value_in.result (λ v. z ≡ Ok v.now)) (sym (read_whole c.args.frames.now c.args.name.now _ _ c.in_ok-looked.looked.key c.in_ok-looked.ensures.ok c.in-None.is)) c.value_in.ensures.ok

pub returns-in-None-clause-err : goal.returns-in-None-clause-err
returns-in-None-clause-err c =
    subst (λ z. IfErr c.value_in.result (λ e. Refuses e z)) (sym (read_whole c.args.frames.now c.args.name.now _ _ c.in_ok-looked.looked.key c.in_ok-looked.ensures.ok c.in-None.is)) c.value_in.ensures.err

pub returns-in-Some-clause-ok : goal.returns-in-Some-clause-ok
returns-in-Some-clause-ok c =
    subst (λ z. IfOk c.value_in-in-Some.result (λ v. z ≡ Ok v.now)) (sym (read_key c.args.frames.now c.args.name.now _ _ _ c.in_ok-looked.looked.key c.in-Some.key c.in_ok-looked.ensures.ok c.in-Some.is c.part_over.ensures)) c.value_in-in-Some.ensures.ok

pub returns-in-Some-clause-err : goal.returns-in-Some-clause-err
returns-in-Some-clause-err c =
    subst (λ z. IfErr c.value_in-in-Some.result (λ e. Refuses e z)) (sym (read_key c.args.frames.now c.args.name.now _ _ _ c.in_ok-looked.looked.key c.in-Some.key c.in_ok-looked.ensures.ok c.in-Some.is c.part_over.ensures)) c.value_in-in-Some.ensures.err
