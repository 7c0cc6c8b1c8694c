use Rattle.std.proofs.Common.{ap}
use Rattle.std.proofs.lemmas.Result.{err_from_is_err_and}
use Rattle.tcl_core.specs.Entries.Entry.{SetCountLimit, SetDepthLimit}
use Rattle.tcl_run.proofs.Endings.{ended_err}
use Rattle.tcl_calls.proofs.Looks.{gets_as, gets_end, looks_then}
use Rattle.tcl_interp.specs.Programs.{to_limit}
use Rattle.tcl_interp.specs.declared.limits.LimitOf.{LimitOf}
use Rattle.tcl_interp.specs.declared.limits.LimitOf.TheVariants.{Steps, Depth}
use Rattle.tcl_interp.proofs.limits.setting.Goals as goal

pub returns-in_ok-limit_value-in-Steps : goal.returns-in_ok-limit_value-in-Steps
returns-in_ok-limit_value-in-Steps c = λ rest p style at. looks_then (gets_as c.args.tree.now c.args.place (λ style. to_limit style c.args.limit c.args.value.now (λ e. rest e style)) (λ style. to_limit style Steps c.args.value.now (λ e. rest e style)) (λ style. ap (λ (x : LimitOf). to_limit style x c.args.value.now (λ e. rest e style)) c.in-Steps.is) p style at)
    (c.in_ok-limit_value-in-Steps.ensures (λ limit style. rest (SetCountLimit limit) style) p style at)

pub returns-in_ok-depth_value-in-Depth : goal.returns-in_ok-depth_value-in-Depth
returns-in_ok-depth_value-in-Depth c = λ rest p style at. looks_then (gets_as c.args.tree.now c.args.place (λ style. to_limit style c.args.limit c.args.value.now (λ e. rest e style)) (λ style. to_limit style Depth c.args.value.now (λ e. rest e style)) (λ style. ap (λ (x : LimitOf). to_limit style x c.args.value.now (λ e. rest e style)) c.in-Depth.is) p style at)
    (c.in_ok-depth_value-in-Depth.ensures (λ limit style. rest (SetDepthLimit limit) style) p style at)

pub returns-in_err-limit_value-in-Steps : goal.returns-in_err-limit_value-in-Steps
returns-in_err-limit_value-in-Steps c =
    let p = err_from_is_err_and c.from_residual.result c.from_residual.ensures.1 in
    ended_err c.from_residual.result c.in_err-limit_value-in-Steps.field-0.0 p.0 _ _ _ p.1 p.2 c.in_err-limit_value-in-Steps.ensures
    (λ e f rest. gets_end c.args.tree.now c.args.place (λ style. to_limit style c.args.limit c.args.value.now (λ e. rest e style)) (λ style. to_limit style Steps c.args.value.now (λ e. rest e style)) e
    (gets_as c.args.tree.now c.args.place _ _ (λ style. ap (λ (x : LimitOf). to_limit style x c.args.value.now (λ e. rest e style)) c.in-Steps.is)) (f (λ limit style. rest (SetCountLimit limit) style)))

pub returns-in_err-depth_value-in-Depth : goal.returns-in_err-depth_value-in-Depth
returns-in_err-depth_value-in-Depth c =
    let p = err_from_is_err_and c.from_residual-in_err-depth_value-in-Depth.result c.from_residual-in_err-depth_value-in-Depth.ensures.1 in
    ended_err c.from_residual-in_err-depth_value-in-Depth.result c.in_err-depth_value-in-Depth.field-0.0 p.0 _ _ _ p.1 p.2 c.in_err-depth_value-in-Depth.ensures
    (λ e f rest. gets_end c.args.tree.now c.args.place (λ style. to_limit style c.args.limit c.args.value.now (λ e. rest e style)) (λ style. to_limit style Depth c.args.value.now (λ e. rest e style)) e
    (gets_as c.args.tree.now c.args.place _ _ (λ style. ap (λ (x : LimitOf). to_limit style x c.args.value.now (λ e. rest e style)) c.in-Depth.is)) (f (λ limit style. rest (SetDepthLimit limit) style)))
