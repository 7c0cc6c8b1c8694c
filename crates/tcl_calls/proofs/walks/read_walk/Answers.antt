use Rattle.std.proofs.Common.{subst}
use Rattle.std.proofs.lemmas.Result.{err_from_is_err_and}
use Rattle.tcl_core.specs.Paths.{Text}
use Rattle.tcl_run.specs.Ends.{IsFailure}
use Rattle.tcl_run.proofs.Endings.{at_err}
use Rattle.tcl_text.specs.Lists.{list_of}
use Rattle.tcl_text.specs.Writing.{fault_message}
use Rattle.tcl_calls.specs.Walks.{MisreadsWalk}
use Rattle.tcl_calls.proofs.Walking.{misread_second}
use Rattle.tcl_calls.proofs.walks.read_walk.Goals as goal

pub returns-in_err-elements-2-clause-refused : goal.returns-in_err-elements-2-clause-refused
returns-in_err-elements-2-clause-refused c =
    let p = err_from_is_err_and c.from_residual-in_err-elements-2.result c.from_residual-in_err-elements-2.ensures.1 in
    at_err c.from_residual-in_err-elements-2.result c.in_err-elements-2.field-0.0 p.0 (IsFailure fault_message (list_of c.in_ok-elements.elements)) (MisreadsWalk c.args.form.now c.args.names.now c.args.elements.now) p.1 p.2 c.in_err-elements-2.ensures.read
    (λ e h. misread_second c.args.form.now c.args.names.now c.args.elements.now c.in_ok-names.names e c.in_ok-names.ensures (subst (λ (x : Text). IsFailure fault_message (list_of x) e) c.in_ok-elements.ensures.cases h))
