use Rattle.std.proofs.Common.{false, refl}
use Rattle.std.proofs.lemmas.Result.{err_from_is_err_and}
use Rattle.tcl_language.specs.Interpreters as interpreters
use Rattle.tcl_calls.proofs.EntryTelling.{evaluates_as}
use Rattle.tcl_interp.proofs.Stepping.{fails_passed}
use Rattle.tcl_interp.proofs.creating.create.Goals as goal

pub returns-in_err-safe-clause-evaluates : goal.returns-in_err-safe-clause-evaluates
returns-in_err-safe-clause-evaluates g c =
    let p = err_from_is_err_and c.from_residual.result c.from_residual.ensures.1 in
    fails_passed g.O.Outside.goes c.args.tree.now c.args.outside.now c.args.place (λ style. interpreters.create_options false c.args.args.now) (interpreters.create_options false c.args.args.now) c.from_residual.result c.in_err-safe.field-0.0 p.0 (λ style. refl) p.1 p.2
    c.in_err-safe.ensures.refused

pub returns-clause-evaluates : goal.returns-clause-evaluates
returns-clause-evaluates g c = evaluates_as g.O.Outside.goes c.args.tree.now c.create_named.new.tree c.args.outside.now c.create_named.new.outside c.args.place (λ style. interpreters.create_options false c.args.args.now)
    (λ style. interpreters.create_path c.in_ok-safe.safe c.in_ok-safe.words.now) c.create_named.result (λ style. c.in_ok-safe.ensures.read) c.create_named.ensures.evaluates
