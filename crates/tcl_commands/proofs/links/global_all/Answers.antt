use Rattle.std.proofs.Common.{◌≡◌, ◌+◌, ℕ, List, ◌∷◌, drop, sym, ap, ◌∙◌, arith}
use Rattle.std.proofs.lemmas.Result.{err_from_is_err_and}
use Rattle.tcl_language.specs.Variables.{global_all}
use Rattle.tcl_text.proofs.Items.{item_on}
use Rattle.tcl_commands.proofs.Linking.{global_goes, global_ends}
use Rattle.tcl_commands.proofs.Ways.{way_goes, way_passes}
use Rattle.tcl_commands.proofs.links.global_all.Goals as goal

pub names-preserved : goal.names-preserved
names-preserved c =
    let item : drop c.names.name-index c.args.names.now ≡ c.in_ok-name.name ∷ drop (c.names.name-index + 1) c.args.names.now =
    item_on c.args.names.now c.names.name-index c.name-item.result (omega arith) c.name-item.is ∙ ap (λ (x : List ℕ). x ∷ drop (c.names.name-index + 1) c.args.names.now) (sym c.in_ok-name.ensures) in
    way_goes c.args.tree.now c.names.tree c.link_variable.new.tree c.args.place (λ style. global_all c.args.names.now) (λ style. global_all (drop c.names.name-index c.args.names.now))
    (λ style. global_all (drop (c.names.name-index + 1) c.args.names.now)) c.names.invariant c.in_ok-link_variable.ensures.level
    (global_goes c.names.tree c.link_variable.new.tree c.args.place (drop c.names.name-index c.args.names.now) c.in_ok-name.name c.in_ok-local.local (drop (c.names.name-index + 1) c.args.names.now) item c.in_ok-local.ensures c.in_ok-link_variable.ensures.linked)

pub returns-in_err-link_variable-clause-acts : goal.returns-in_err-link_variable-clause-acts
returns-in_err-link_variable-clause-acts c =
    let item : drop c.names.name-index c.args.names.now ≡ c.in_ok-name.name ∷ drop (c.names.name-index + 1) c.args.names.now =
    item_on c.args.names.now c.names.name-index c.name-item.result (omega arith) c.name-item.is ∙ ap (λ (x : List ℕ). x ∷ drop (c.names.name-index + 1) c.args.names.now) (sym c.in_ok-name.ensures) in
    let p = err_from_is_err_and c.from_residual-in_err-link_variable.result c.from_residual-in_err-link_variable.ensures.1 in
    way_passes c.args.tree.now c.names.tree c.link_variable.new.tree c.args.place (λ style. global_all c.args.names.now) (λ style. global_all (drop c.names.name-index c.args.names.now))
    c.in_err-link_variable.field-0.0 p.0 c.from_residual-in_err-link_variable.result p.1 p.2 c.names.invariant
    (global_ends c.names.tree c.link_variable.new.tree c.args.place (drop c.names.name-index c.args.names.now) c.in_ok-name.name c.in_ok-local.local (drop (c.names.name-index + 1) c.args.names.now) c.in_err-link_variable.field-0.0 item c.in_ok-local.ensures c.in_err-link_variable.ensures.linked)
