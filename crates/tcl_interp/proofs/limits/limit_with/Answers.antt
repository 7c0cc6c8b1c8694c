use Rattle.std.proofs.Common.{[], ◌∷◌}
use Rattle.std.proofs.lemmas.Result.{err_from_is_err_and}
use Rattle.tcl_language.specs.Interpreters.{commands_only, value_only}
use Rattle.tcl_calls.specs.Asking.{Styled}
use Rattle.tcl_calls.proofs.Looks.{gets_evaluates}
use Rattle.tcl_interp.specs.Programs.{limits, sets}
use Rattle.tcl_interp.specs.Subjects.{about}
use Rattle.tcl_interp.specs.declared.limits.LimitOf.TheVariants.{Steps}
use Rattle.tcl_interp.proofs.Subjects.{passed_out}
use Rattle.tcl_interp.proofs.limits.limit_with.Goals as goal

pub returns-in_err-commands_only-clause-evaluates : goal.returns-in_err-commands_only-clause-evaluates
returns-in_err-commands_only-clause-evaluates g c =
    let p = err_from_is_err_and c.from_residual.result c.from_residual.ensures.1 in
    passed_out g.O.Outside.goes c.args.tree.now c.args.outside.now c.args.place (λ rest style. commands_only c.args.word.now (rest style)) (λ style. value_only c.args.option.now (sets style Steps (about c.args.subject) c.args.value.now)) c.from_residual.result c.in_err-commands_only.field-0.0 p.0 p.1 p.2 c.in_err-commands_only.ensures

pub returns-in_err-value_only-clause-evaluates : goal.returns-in_err-value_only-clause-evaluates
returns-in_err-value_only-clause-evaluates g c =
    let setting : Styled = λ style. sets style Steps (about c.args.subject) c.args.value.now in
    let p = err_from_is_err_and c.from_residual-in_err-value_only.result c.from_residual-in_err-value_only.ensures.1 in
    gets_evaluates g.O.Outside.goes c.args.tree.now c.args.outside.now c.args.place (λ style. limits style (about c.args.subject) (c.args.word.now ∷ c.args.option.now ∷ c.args.value.now ∷ [])) (λ style. value_only c.args.option.now (setting style)) c.args.tree.now c.args.outside.now c.from_residual-in_err-value_only.result (c.in_ok-commands_only.ensures (λ style. value_only c.args.option.now (setting style)))
    (passed_out g.O.Outside.goes c.args.tree.now c.args.outside.now c.args.place (λ rest style. value_only c.args.option.now (rest style)) setting c.from_residual-in_err-value_only.result c.in_err-value_only.field-0.0 p.0 p.1 p.2 c.in_err-value_only.ensures)

pub returns-clause-evaluates : goal.returns-clause-evaluates
returns-clause-evaluates g c =
    let setting : Styled = λ style. sets style Steps (about c.args.subject) c.args.value.now in
    gets_evaluates g.O.Outside.goes c.args.tree.now c.args.outside.now c.args.place (λ style. limits style (about c.args.subject) (c.args.word.now ∷ c.args.option.now ∷ c.args.value.now ∷ [])) (λ style. value_only c.args.option.now (setting style)) c.set_limit.new.tree c.set_limit.new.outside c.set_limit.result (c.in_ok-commands_only.ensures (λ style. value_only c.args.option.now (setting style)))
    (gets_evaluates g.O.Outside.goes c.args.tree.now c.args.outside.now c.args.place (λ style. value_only c.args.option.now (setting style)) setting c.set_limit.new.tree c.set_limit.new.outside c.set_limit.result (c.in_ok-value_only.ensures setting)
    c.set_limit.ensures.evaluates)
