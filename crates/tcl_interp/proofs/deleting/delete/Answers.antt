use Rattle.std.proofs.Common.{◌≡◌, ◌+◌, ℕ, List, [], ◌∷◌, drop, sym, ap, ◌∙◌, arith}
use Rattle.std.proofs.lemmas.Result.{err_from_is_err_and}
use Rattle.tcl_language.specs.Interpreters as interpreters
use Rattle.tcl_run.proofs.Keeping.{loses-trans}
use Rattle.tcl_run.proofs.Steady.{here-trans, still_running}
use Rattle.tcl_calls.proofs.EntryTelling.{passes}
use Rattle.tcl_text.proofs.Items.{item_on, none_on}
use Rattle.tcl_interp.proofs.Stepping.{leads_then, leads_end, leads_done}
use Rattle.tcl_interp.proofs.deleting.delete.Goals as goal

pub paths-preserved : goal.paths-preserved
paths-preserved g c =
    let item : drop c.paths.path-index c.args.args.now ≡ c.in_ok-text.text ∷ drop (c.paths.path-index + 1) c.args.args.now =
    item_on c.args.args.now c.paths.path-index c.path-item.result (omega arith) c.path-item.is ∙ ap (λ (x : List ℕ). x ∷ drop (c.paths.path-index + 1) c.args.args.now) (sym c.in_ok-text.ensures) in record {
      leads = leads_then g.O.Outside.goes c.args.tree.now c.paths.tree c.delete_there.new.tree c.args.outside.now c.paths.outside c.delete_there.new.outside c.args.place (λ style. interpreters.delete c.args.args.now) (λ style. interpreters.delete (drop c.paths.path-index c.args.args.now))
          (λ style. interpreters.at_path c.in_ok-text.text (λ path n. interpreters.deletes_named c.in_ok-text.text path (interpreters.delete (drop (c.paths.path-index + 1) c.args.args.now)))) (λ style. interpreters.delete (drop (c.paths.path-index + 1) c.args.args.now))
          c.paths.invariant.leads (λ style. ap interpreters.delete item) (c.in_ok-delete_there.ensures.steps (λ style. interpreters.delete (drop (c.paths.path-index + 1) c.args.args.now)));
      keeps = loses-trans c.paths.invariant.keeps c.in_ok-delete_there.ensures.keeps;
      here = here-trans c.args.tree.now c.paths.tree c.delete_there.new.tree c.args.place c.paths.invariant.here c.in_ok-delete_there.ensures.here;
    }

pub delete_there-requires : goal.delete_there-requires
delete_there-requires g c = still_running c.args.tree.now c.paths.tree c.args.place c.paths.invariant.here c.requires

pub returns-in_err-delete_there-clause-evaluates : goal.returns-in_err-delete_there-clause-evaluates
returns-in_err-delete_there-clause-evaluates g c =
    let item : drop c.paths.path-index c.args.args.now ≡ c.in_ok-text.text ∷ drop (c.paths.path-index + 1) c.args.args.now =
    item_on c.args.args.now c.paths.path-index c.path-item.result (omega arith) c.path-item.is ∙ ap (λ (x : List ℕ). x ∷ drop (c.paths.path-index + 1) c.args.args.now) (sym c.in_ok-text.ensures) in
    let p = err_from_is_err_and c.from_residual-in_err-delete_there.result c.from_residual-in_err-delete_there.ensures.1 in
    passes g.O.Outside.goes c.args.tree.now c.delete_there.new.tree c.args.outside.now c.delete_there.new.outside c.args.place (λ style. interpreters.delete c.args.args.now) c.from_residual-in_err-delete_there.result c.in_err-delete_there.field-0.0 p.0 p.1 p.2
    (leads_end g.O.Outside.goes c.args.tree.now c.paths.tree c.delete_there.new.tree c.args.outside.now c.paths.outside c.delete_there.new.outside c.args.place (λ style. interpreters.delete c.args.args.now) (λ style. interpreters.delete (drop c.paths.path-index c.args.args.now))
    (λ style. interpreters.at_path c.in_ok-text.text (λ path n. interpreters.deletes_named c.in_ok-text.text path (interpreters.delete (drop (c.paths.path-index + 1) c.args.args.now)))) c.in_err-delete_there.field-0.0
    c.paths.invariant.leads (λ style. ap interpreters.delete item) (c.in_err-delete_there.ensures.steps (λ style. interpreters.delete (drop (c.paths.path-index + 1) c.args.args.now))))

pub returns-clause-evaluates : goal.returns-clause-evaluates
returns-clause-evaluates g c = leads_done g.O.Outside.goes c.args.tree.now c.paths.tree c.args.outside.now c.paths.outside c.args.place (λ style. interpreters.delete c.args.args.now) (λ style. interpreters.delete (drop c.paths.path-index c.args.args.now)) [] c.empty.result
    c.paths.invariant.leads (λ style. ap interpreters.delete (none_on c.args.args.now c.paths.path-index (omega arith))) c.empty.ensures

pub returns-in_err-delete_there-clause-keeps : goal.returns-in_err-delete_there-clause-keeps
returns-in_err-delete_there-clause-keeps g c = loses-trans c.paths.invariant.keeps c.in_err-delete_there.ensures.keeps

pub returns-in_err-delete_there-clause-here : goal.returns-in_err-delete_there-clause-here
returns-in_err-delete_there-clause-here g c = here-trans c.args.tree.now c.paths.tree c.delete_there.new.tree c.args.place c.paths.invariant.here c.in_err-delete_there.ensures.here
