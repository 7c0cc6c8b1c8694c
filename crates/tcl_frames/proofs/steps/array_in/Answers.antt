use Rattle.std.proofs.Common.{◌∙◌, sym, ap, Ok}
use Rattle.std.proofs.lemmas.Result.{err_from_is_err_and}
use Rattle.tcl_frames.proofs.StepLemmas.{array_bad_name, array_whole, array_key}
use Rattle.tcl_frames.proofs.steps.array_in.Goals as goal

pub returns-in_err-looked-clause-err : goal.returns-in_err-looked-clause-err
returns-in_err-looked-clause-err c =
    let p = err_from_is_err_and c.from_residual.result c.from_residual.ensures.1 in
    rw (p.1, p.2) (array_bad_name c.args.frames.now c.args.name.now c.in_err-looked.field-0.0 c.in_err-looked.ensures.err.0 c.in_err-looked.ensures.err.1)

pub returns-in-None-clause-ok : goal.returns-in-None-clause-ok
returns-in-None-clause-ok c =
    array_whole c.args.frames.now c.args.name.now _ _ c.in_ok-looked.looked.key c.in_ok-looked.ensures.ok c.in-None.is ∙ ap (λ b. Ok b) (sym c.elements_in.ensures)

pub returns-in-Some-clause-ok : goal.returns-in-Some-clause-ok
returns-in-Some-clause-ok c =
    array_key c.args.frames.now c.args.name.now _ _ _ c.in_ok-looked.looked.key c.in-Some.key c.in_ok-looked.ensures.ok c.in-Some.is c.part_over.ensures ∙ ap (λ b. Ok b) (sym c.elements_in-in-Some.ensures)
