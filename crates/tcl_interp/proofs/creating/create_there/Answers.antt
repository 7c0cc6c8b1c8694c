use Rattle.std.proofs.Common.{subst}
use Rattle.std.proofs.lemmas.Result.{err_from_is_err_and}
use Rattle.tcl_core.specs.Paths.{Path}
use Rattle.tcl_language.specs.Instructions.{or_fails}
use Rattle.tcl_language.specs.Interpreters as interpreters
use Rattle.tcl_run.specs.Runs.{Evaluates}
use Rattle.tcl_run.proofs.Endings.{Interrupts-more}
use Rattle.tcl_text.specs.Lists.{list_of}
use Rattle.tcl_text.specs.Writing.{fault_message}
use Rattle.tcl_calls.specs.Looking.{GetsToEnd}
use Rattle.tcl_calls.proofs.Looks.{gets_evaluates, passes_evaluates}
use Rattle.tcl_interp.proofs.creating.create_there.Goals as goal

pub returns-in_err-names-clause-evaluates : goal.returns-in_err-names-clause-evaluates
returns-in_err-names-clause-evaluates g c =
    let p = err_from_is_err_and c.from_residual.result c.from_residual.ensures.1 in
    passes_evaluates g.O.Outside.goes c.args.tree.now c.args.outside.now c.args.place (λ style. or_fails fault_message (list_of c.args.word.now) (interpreters.makes_named c.args.word.now c.args.safe)) c.from_residual.result c.in_err-names.field-0.0 p.0 p.1 p.2
    (Interrupts-more c.in_err-names.field-0.0 _ (GetsToEnd c.args.tree.now c.args.place (λ style. or_fails fault_message (list_of c.args.word.now) (interpreters.makes_named c.args.word.now c.args.safe)))
    (λ e f. f (λ path style. interpreters.makes_named c.args.word.now c.args.safe path)) c.in_err-names.ensures)

pub returns-clause-evaluates : goal.returns-clause-evaluates
returns-clause-evaluates g c = gets_evaluates g.O.Outside.goes c.args.tree.now c.args.outside.now c.args.place (λ style. or_fails fault_message (list_of c.args.word.now) (interpreters.makes_named c.args.word.now c.args.safe))
    (λ style. interpreters.makes_named c.args.word.now c.args.safe c.in_ok-names.names.items) c.create_at.new.tree c.create_at.new.outside c.create_at.result (c.in_ok-names.ensures (λ path style. interpreters.makes_named c.args.word.now c.args.safe path))
    (subst (λ (x : Path). Evaluates g.O.Outside.goes c.args.tree.now c.args.outside.now c.args.place (λ style. interpreters.makes_named c.args.word.now c.args.safe x) c.create_at.new.tree c.create_at.new.outside c.create_at.result) c.as_slice.ensures.value c.create_at.ensures.evaluates)
