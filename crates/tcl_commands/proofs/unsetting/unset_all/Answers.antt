use Rattle.std.proofs.Common.{◌≡◌, ◌+◌, ℕ, List, ◌∷◌, drop, sym, ap, subst, ◌∙◌, arith}
use Rattle.std.proofs.lemmas.Result.{err_from_is_err_and}
use Rattle.tcl_language.specs.Variables.{unset_all}
use Rattle.tcl_run.specs.Ends.{Interrupts}
use Rattle.tcl_tree.specs.TreeOf.{tree_of}
use Rattle.tcl_text.proofs.Items.{item_on}
use Rattle.tcl_commands.specs.Steps.{EndsAt, Leads}
use Rattle.tcl_commands.proofs.Ways.{way_goes, way_passes}
use Rattle.tcl_commands.proofs.unsetting.unset_all.Goals as goal

pub names-preserved : goal.names-preserved
names-preserved c =
    let item : drop c.names.name-index c.args.names.now ≡ c.in_ok-name.name ∷ drop (c.names.name-index + 1) c.args.names.now =
    item_on c.args.names.now c.names.name-index c.name-item.result (omega arith) c.name-item.is ∙ ap (λ (x : List ℕ). x ∷ drop (c.names.name-index + 1) c.args.names.now) (sym c.in_ok-name.ensures) in
    way_goes c.args.tree.now c.names.tree c.unset_variable.new.tree c.args.place (λ style. unset_all c.args.hides c.args.names.now) (λ style. unset_all c.args.hides (drop c.names.name-index c.args.names.now))
    (λ style. unset_all c.args.hides (drop (c.names.name-index + 1) c.args.names.now)) c.names.invariant c.in_ok-unset_variable.ensures.level
    (subst (λ (xs : List (List ℕ)). Leads c.names.tree c.args.place (λ style. unset_all c.args.hides xs) c.unset_variable.new.tree (λ style. unset_all c.args.hides (drop (c.names.name-index + 1) c.args.names.now))) (sym item)
    (c.in_ok-unset_variable.ensures.unset (λ style. unset_all c.args.hides (drop (c.names.name-index + 1) c.args.names.now))))

pub returns-in_err-unset_variable-clause-acts : goal.returns-in_err-unset_variable-clause-acts
returns-in_err-unset_variable-clause-acts c =
    let item : drop c.names.name-index c.args.names.now ≡ c.in_ok-name.name ∷ drop (c.names.name-index + 1) c.args.names.now =
    item_on c.args.names.now c.names.name-index c.name-item.result (omega arith) c.name-item.is ∙ ap (λ (x : List ℕ). x ∷ drop (c.names.name-index + 1) c.args.names.now) (sym c.in_ok-name.ensures) in
    let p = err_from_is_err_and c.from_residual-in_err-unset_variable.result c.from_residual-in_err-unset_variable.ensures.1 in
    way_passes c.args.tree.now c.names.tree c.unset_variable.new.tree c.args.place (λ style. unset_all c.args.hides c.args.names.now) (λ style. unset_all c.args.hides (drop c.names.name-index c.args.names.now))
    c.in_err-unset_variable.field-0.0 p.0 c.from_residual-in_err-unset_variable.result p.1 p.2 c.names.invariant
    (subst (λ (xs : List (List ℕ)). Interrupts c.in_err-unset_variable.field-0.0 (EndsAt c.names.tree c.args.place (λ style. unset_all c.args.hides xs) (tree_of c.unset_variable.new.tree))) (sym item)
    (c.in_err-unset_variable.ensures.unset (λ style. unset_all c.args.hides (drop (c.names.name-index + 1) c.args.names.now))))
