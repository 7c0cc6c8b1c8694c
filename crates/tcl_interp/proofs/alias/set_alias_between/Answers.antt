use Rattle.std.proofs.Common.{◌∷◌, subst}
use Rattle.std.proofs.lemmas.Result.{err_from_is_err_and}
use Rattle.tcl_core.specs.Paths.{Path}
use Rattle.tcl_language.specs.Instructions.{or_fails}
use Rattle.tcl_language.specs.Interpreters.{alias_path, at_path}
use Rattle.tcl_run.specs.Runs.{Evaluates}
use Rattle.tcl_text.specs.Lists.{list_of}
use Rattle.tcl_text.specs.Writing.{fault_message}
use Rattle.tcl_calls.specs.Asking.{Styled}
use Rattle.tcl_calls.proofs.Looks.{gets_evaluates}
use Rattle.tcl_interp.specs.Programs.{given}
use Rattle.tcl_interp.proofs.Subjects.{found_out}
use Rattle.tcl_interp.proofs.alias.set_alias_between.Goals as goal

pub returns-in_err-found-clause-evaluates : goal.returns-in_err-found-clause-evaluates
returns-in_err-found-clause-evaluates g c =
    let gives : Path → Path → Styled = λ path goal style. given path goal c.args.name.now (c.args.word.now ∷ c.args.words.now) in
    let reads : Path → Styled = λ path style. or_fails fault_message (list_of c.args.target.now) (λ goal. gives path goal style) in
    let p = err_from_is_err_and c.from_residual.result c.from_residual.ensures.1 in
    found_out g.O.Outside.goes c.args.tree.now c.args.outside.now c.args.place (λ rest style. at_path c.args.source.now (λ path n. rest path style)) reads c.from_residual.result c.in_err-found.field-0.0 p.0 p.1 p.2 c.in_err-found.ensures.read

pub returns-in_err-goal-clause-evaluates : goal.returns-in_err-goal-clause-evaluates
returns-in_err-goal-clause-evaluates g c =
    let gives : Path → Path → Styled = λ path goal style. given path goal c.args.name.now (c.args.word.now ∷ c.args.words.now) in
    let reads : Path → Styled = λ path style. or_fails fault_message (list_of c.args.target.now) (λ goal. gives path goal style) in
    let p = err_from_is_err_and c.from_residual-in_err-goal.result c.from_residual-in_err-goal.ensures.1 in
    gets_evaluates g.O.Outside.goes c.args.tree.now c.args.outside.now c.args.place (λ style. alias_path c.args.source.now c.args.name.now c.args.target.now c.args.word.now c.args.words.now) (reads c.in_ok-found.found.path.items) c.args.tree.now c.args.outside.now c.from_residual-in_err-goal.result (c.in_ok-found.ensures.read reads)
    (found_out g.O.Outside.goes c.args.tree.now c.args.outside.now c.args.place (λ rest style. or_fails fault_message (list_of c.args.target.now) (λ goal. rest goal style)) (gives c.in_ok-found.found.path.items) c.from_residual-in_err-goal.result c.in_err-goal.field-0.0 p.0 p.1 p.2 c.in_err-goal.ensures)

pub returns-clause-evaluates : goal.returns-clause-evaluates
returns-clause-evaluates g c =
    let gives : Path → Path → Styled = λ path goal style. given path goal c.args.name.now (c.args.word.now ∷ c.args.words.now) in
    let reads : Path → Styled = λ path style. or_fails fault_message (list_of c.args.target.now) (λ goal. gives path goal style) in
    gets_evaluates g.O.Outside.goes c.args.tree.now c.args.outside.now c.args.place (λ style. alias_path c.args.source.now c.args.name.now c.args.target.now c.args.word.now c.args.words.now) (reads c.in_ok-found.found.path.items) c.set_alias.new.tree c.set_alias.new.outside c.set_alias.result (c.in_ok-found.ensures.read reads)
    (gets_evaluates g.O.Outside.goes c.args.tree.now c.args.outside.now c.args.place (reads c.in_ok-found.found.path.items) (gives c.in_ok-found.found.path.items c.in_ok-goal.goal.items) c.set_alias.new.tree c.set_alias.new.outside c.set_alias.result (c.in_ok-goal.ensures (gives c.in_ok-found.found.path.items))
    (subst (λ (x : Path). Evaluates g.O.Outside.goes c.args.tree.now c.args.outside.now c.args.place (gives x c.in_ok-goal.goal.items) c.set_alias.new.tree c.set_alias.new.outside c.set_alias.result) c.as_slice-from.ensures.value
    (subst (λ (x : Path). Evaluates g.O.Outside.goes c.args.tree.now c.args.outside.now c.args.place (gives c.as_slice-from.result.now x) c.set_alias.new.tree c.set_alias.new.outside c.set_alias.result) c.as_slice-to.ensures.value c.set_alias.ensures.evaluates)))
