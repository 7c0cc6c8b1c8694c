use Rattle.std.proofs.Common.{subst}
use Rattle.std.proofs.lemmas.Result.{err_from_is_err_and}
use Rattle.tcl_core.specs.Paths.{Path}
use Rattle.tcl_core.specs.Programs.Prog.{done}
use Rattle.tcl_language.specs.Interpreters.{asks_at, permitted}
use Rattle.tcl_run.specs.Entering.{entry_of}
use Rattle.tcl_run.specs.Runs.{Evaluates}
use Rattle.tcl_calls.specs.Asking.{Styled}
use Rattle.tcl_calls.proofs.Looks.{gets_evaluates}
use Rattle.tcl_interp.specs.Programs.{settable, sets, to_limit}
use Rattle.tcl_interp.specs.Subjects.{about}
use Rattle.tcl_interp.proofs.Subjects.{found_out, passed_out}
use Rattle.tcl_interp.proofs.limits.set_limit.Goals as goal

pub returns-in_err-permit-clause-evaluates : goal.returns-in_err-permit-clause-evaluates
returns-in_err-permit-clause-evaluates g c =
    let asked : Path → Styled = λ path style. to_limit style c.args.limit c.args.value.now (λ entry. asks_at path entry done) in
    let found : Styled = λ style. settable c.args.limit (about c.args.subject) (λ path. asked path style) in
    let p = err_from_is_err_and c.from_residual.result c.from_residual.ensures.1 in
    passed_out g.O.Outside.goes c.args.tree.now c.args.outside.now c.args.place (λ rest style. permitted (rest style)) found c.from_residual.result c.in_err-permit.field-0.0 p.0 p.1 p.2 c.in_err-permit.ensures

pub returns-in_err-path-clause-evaluates : goal.returns-in_err-path-clause-evaluates
returns-in_err-path-clause-evaluates g c =
    let asked : Path → Styled = λ path style. to_limit style c.args.limit c.args.value.now (λ entry. asks_at path entry done) in
    let found : Styled = λ style. settable c.args.limit (about c.args.subject) (λ path. asked path style) in
    let p = err_from_is_err_and c.from_residual-in_err-path.result c.from_residual-in_err-path.ensures.1 in
    gets_evaluates g.O.Outside.goes c.args.tree.now c.args.outside.now c.args.place (λ style. sets style c.args.limit (about c.args.subject) c.args.value.now) found c.args.tree.now c.args.outside.now c.from_residual-in_err-path.result (c.in_ok-permit.ensures found)
    (found_out g.O.Outside.goes c.args.tree.now c.args.outside.now c.args.place (λ rest style. settable c.args.limit (about c.args.subject) (λ path. rest path style)) asked c.from_residual-in_err-path.result c.in_err-path.field-0.0 p.0 p.1 p.2 c.in_err-path.ensures)

pub returns-in_err-entry-clause-evaluates : goal.returns-in_err-entry-clause-evaluates
returns-in_err-entry-clause-evaluates g c =
    let asked : Path → Styled = λ path style. to_limit style c.args.limit c.args.value.now (λ entry. asks_at path entry done) in
    let found : Styled = λ style. settable c.args.limit (about c.args.subject) (λ path. asked path style) in
    let p = err_from_is_err_and c.from_residual-in_err-entry.result c.from_residual-in_err-entry.ensures.1 in
    gets_evaluates g.O.Outside.goes c.args.tree.now c.args.outside.now c.args.place (λ style. sets style c.args.limit (about c.args.subject) c.args.value.now) found c.args.tree.now c.args.outside.now c.from_residual-in_err-entry.result (c.in_ok-permit.ensures found)
    (gets_evaluates g.O.Outside.goes c.args.tree.now c.args.outside.now c.args.place found (asked c.in_ok-path.path.items) c.args.tree.now c.args.outside.now c.from_residual-in_err-entry.result (c.in_ok-path.ensures asked)
    (found_out g.O.Outside.goes c.args.tree.now c.args.outside.now c.args.place (λ rest style. to_limit style c.args.limit c.args.value.now (λ e. rest e style)) (λ entry style. asks_at c.in_ok-path.path.items entry done) c.from_residual-in_err-entry.result c.in_err-entry.field-0.0 p.0 p.1 p.2 c.in_err-entry.ensures))

pub returns-clause-evaluates : goal.returns-clause-evaluates
returns-clause-evaluates g c =
    let asked : Path → Styled = λ path style. to_limit style c.args.limit c.args.value.now (λ entry. asks_at path entry done) in
    let found : Styled = λ style. settable c.args.limit (about c.args.subject) (λ path. asked path style) in
    gets_evaluates g.O.Outside.goes c.args.tree.now c.args.outside.now c.args.place (λ style. sets style c.args.limit (about c.args.subject) c.args.value.now) found c.ask_at.new.tree c.ask_at.new.outside c.ask_at.result (c.in_ok-permit.ensures found)
    (gets_evaluates g.O.Outside.goes c.args.tree.now c.args.outside.now c.args.place found (asked c.in_ok-path.path.items) c.ask_at.new.tree c.ask_at.new.outside c.ask_at.result (c.in_ok-path.ensures asked)
    (gets_evaluates g.O.Outside.goes c.args.tree.now c.args.outside.now c.args.place (asked c.in_ok-path.path.items) (λ style. asks_at c.in_ok-path.path.items (entry_of c.in_ok-entry.entry) done) c.ask_at.new.tree c.ask_at.new.outside c.ask_at.result (c.in_ok-entry.ensures (λ entry style. asks_at c.in_ok-path.path.items entry done))
    (subst (λ (x : Path). Evaluates g.O.Outside.goes c.args.tree.now c.args.outside.now c.args.place (λ style. asks_at x (entry_of c.in_ok-entry.entry) done) c.ask_at.new.tree c.ask_at.new.outside c.ask_at.result) c.as_slice.ensures.value c.ask_at.ensures.evaluates)))
