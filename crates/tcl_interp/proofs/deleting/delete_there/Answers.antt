use Rattle.std.proofs.Common.{subst}
use Rattle.std.proofs.lemmas.Result.{err_from_is_err_and}
use Rattle.tcl_core.specs.Paths.{Path}
use Rattle.tcl_language.specs.Interpreters as interpreters
use Rattle.tcl_run.proofs.Endings.{Interrupts-more}
use Rattle.tcl_tree.specs.TreeOf.{tree_of}
use Rattle.tcl_calls.specs.Asking.{EndsIn, Steps}
use Rattle.tcl_calls.proofs.Looks.{ends_so, gets_leads}
use Rattle.tcl_interp.proofs.Stepping.{steps_after, steps_pass}
use Rattle.tcl_interp.proofs.deleting.delete_there.Goals as goal

pub returns-in_err-found-clause-steps : goal.returns-in_err-found-clause-steps
returns-in_err-found-clause-steps g c =
    let p = err_from_is_err_and c.from_residual.result c.from_residual.ensures.1 in
    steps_pass g.O.Outside.goes c.args.tree.now c.args.tree.now c.args.outside.now c.args.outside.now c.args.place (λ rest style. interpreters.at_path c.args.text.now (λ path n. interpreters.deletes_named c.args.text.now path (rest style))) c.from_residual.result c.in_err-found.field-0.0 p.0 p.1 p.2
    (λ rest. Interrupts-more c.in_err-found.field-0.0 _ (EndsIn g.O.Outside.goes c.args.tree.now c.args.outside.now c.args.place (λ style. interpreters.at_path c.args.text.now (λ path n. interpreters.deletes_named c.args.text.now path (rest style))) (tree_of c.args.tree.now) c.args.outside.now)
    (λ e f. ends_so g.O.Outside.goes c.args.tree.now c.args.outside.now c.args.place (λ style. interpreters.at_path c.args.text.now (λ path n. interpreters.deletes_named c.args.text.now path (rest style))) e (f (λ path style. interpreters.deletes_named c.args.text.now path (rest style)))) c.in_err-found.ensures.read)

pub returns-clause-steps : goal.returns-clause-steps
returns-clause-steps g c = steps_after g.O.Outside.goes c.args.tree.now c.delete_at.new.tree c.args.outside.now c.delete_at.new.outside c.args.place (λ rest style. interpreters.deletes_named c.args.text.now c.in_ok-found.found.path.items (rest style))
    (λ rest style. interpreters.at_path c.args.text.now (λ path n. interpreters.deletes_named c.args.text.now path (rest style))) c.delete_at.result (λ rest. gets_leads g.O.Outside.goes c.args.tree.now c.args.outside.now c.args.place (λ style. interpreters.at_path c.args.text.now (λ path n. interpreters.deletes_named c.args.text.now path (rest style)))
    (λ style. interpreters.deletes_named c.args.text.now c.in_ok-found.found.path.items (rest style)) (c.in_ok-found.ensures.read (λ path style. interpreters.deletes_named c.args.text.now path (rest style))))
    (subst (λ (x : Path). Steps g.O.Outside.goes c.args.tree.now c.args.outside.now c.args.place (λ rest style. interpreters.deletes_named c.args.text.now x (rest style)) c.delete_at.new.tree c.delete_at.new.outside c.delete_at.result) c.as_slice.ensures.value c.delete_at.ensures.steps)
