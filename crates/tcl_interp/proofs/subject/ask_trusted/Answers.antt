use Rattle.std.proofs.Common.{subst}
use Rattle.std.proofs.lemmas.Result.{err_from_is_err_and}
use Rattle.tcl_core.specs.Paths.{Path}
use Rattle.tcl_core.specs.Programs.Prog.{done}
use Rattle.tcl_language.specs.Interpreters.{asks_at, asks_trusted, at_path, permitted}
use Rattle.tcl_run.specs.Entering.{entry_of}
use Rattle.tcl_run.specs.Runs.{Evaluates}
use Rattle.tcl_calls.proofs.Looks.{gets_evaluates}
use Rattle.tcl_interp.specs.Subjects.{about, path_text}
use Rattle.tcl_interp.proofs.Subjects.{found_out}
use Rattle.tcl_interp.proofs.subject.ask_trusted.Goals as goal

pub returns-in_err-path-clause-evaluates : goal.returns-in_err-path-clause-evaluates
returns-in_err-path-clause-evaluates g c =
    let p = err_from_is_err_and c.from_residual.result c.from_residual.ensures.1 in
    found_out g.O.Outside.goes c.args.tree.now c.args.outside.now c.args.place (λ rest style. permitted (at_path (path_text (about c.args.subject)) (λ path n. rest path style))) (λ path style. asks_at path (entry_of c.args.entry) done) c.from_residual.result c.in_err-path.field-0.0 p.0 p.1 p.2 c.in_err-path.ensures

pub returns-clause-evaluates : goal.returns-clause-evaluates
returns-clause-evaluates g c = gets_evaluates g.O.Outside.goes c.args.tree.now c.args.outside.now c.args.place (λ style. asks_trusted (path_text (about c.args.subject)) (entry_of c.args.entry))
    (λ style. asks_at c.in_ok-path.path.items (entry_of c.args.entry) done) c.ask_at.new.tree c.ask_at.new.outside c.ask_at.result (c.in_ok-path.ensures (λ path style. asks_at path (entry_of c.args.entry) done))
    (subst (λ (x : Path). Evaluates g.O.Outside.goes c.args.tree.now c.args.outside.now c.args.place (λ style. asks_at x (entry_of c.args.entry) done) c.ask_at.new.tree c.ask_at.new.outside c.ask_at.result) c.as_slice.ensures.value c.ask_at.ensures.evaluates)
