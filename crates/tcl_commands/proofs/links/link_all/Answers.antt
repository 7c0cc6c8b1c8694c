use Rattle.std.proofs.Common.{◌≡◌, ℕ, List, [], ◌∷◌, drop, length, sym, ap, subst, ◌∙◌, arith}
use Rattle.std.specs.Prelude.{take, ◌-◌}
use Rattle.std.proofs.lemmas.Result.{err_from_is_err_and}
use Rattle.tcl_core.specs.Endings.{ok}
use Rattle.tcl_core.specs.Endings.Reply.{Completed}
use Rattle.tcl_core.specs.Programs.Prog.{done}
use Rattle.tcl_language.specs.Instructions.{Program}
use Rattle.tcl_language.specs.Variables.{link_all}
use Rattle.tcl_tree.specs.TreeOf.{tree_of}
use Rattle.tcl_commands.specs.Steps.{EndsAt, IsOnWay}
use Rattle.tcl_commands.proofs.Linking.{link_ends, link_goes, link_over, two_front}
use Rattle.tcl_commands.proofs.Ways.{way_ends, way_goes, way_passes}
use Rattle.tcl_commands.proofs.links.link_all.Goals as goal

pub names-preserved : goal.names-preserved
names-preserved c =
    let left = c.names.left.now in
    let item : left ≡ c.in_ok-other.other ∷ c.in_ok-local.local ∷ take (length left - 2) (drop 2 left) =
    two_front left c.other-item.result c.local-item.result c.in-len2-up.len_at_least c.other-item.is c.local-item.is
    ∙ ap (λ (x : List ℕ). x ∷ c.local-item.result ∷ take (length left - 2) (drop 2 left)) (sym c.in_ok-other.ensures) ∙ ap (λ (x : List ℕ). c.in_ok-other.other ∷ x ∷ take (length left - 2) (drop 2 left)) (sym c.in_ok-local.ensures) in
    way_goes c.args.tree.now c.names.tree c.link_variable.new.tree c.args.place (λ style. link_all c.args.level c.args.names.now) (λ style. link_all c.args.level left)
    (λ style. link_all c.args.level (take (length left - 2) (drop 2 left))) c.names.invariant c.in_ok-link_variable.ensures.level
    (link_goes c.names.tree c.link_variable.new.tree c.args.place c.args.level left c.in_ok-other.other c.in_ok-local.local (take (length left - 2) (drop 2 left)) item c.in_ok-link_variable.ensures.linked)

pub returns-in_err-link_variable-clause-acts : goal.returns-in_err-link_variable-clause-acts
returns-in_err-link_variable-clause-acts c =
    let left = c.names.left.now in
    let item : left ≡ c.in_ok-other.other ∷ c.in_ok-local.local ∷ take (length left - 2) (drop 2 left) =
    two_front left c.other-item.result c.local-item.result c.in-len2-up.len_at_least c.other-item.is c.local-item.is
    ∙ ap (λ (x : List ℕ). x ∷ c.local-item.result ∷ take (length left - 2) (drop 2 left)) (sym c.in_ok-other.ensures) ∙ ap (λ (x : List ℕ). c.in_ok-other.other ∷ x ∷ take (length left - 2) (drop 2 left)) (sym c.in_ok-local.ensures) in
    let p = err_from_is_err_and c.from_residual-in_err-link_variable.result c.from_residual-in_err-link_variable.ensures.1 in
    way_passes c.args.tree.now c.names.tree c.link_variable.new.tree c.args.place (λ style. link_all c.args.level c.args.names.now) (λ style. link_all c.args.level left)
    c.in_err-link_variable.field-0.0 p.0 c.from_residual-in_err-link_variable.result p.1 p.2 c.names.invariant
    (link_ends c.names.tree c.link_variable.new.tree c.args.place c.args.level left c.in_ok-other.other c.in_ok-local.local (take (length left - 2) (drop 2 left)) c.in_err-link_variable.field-0.0 item c.in_err-link_variable.ensures.linked)

pub returns-clause-acts : goal.returns-clause-acts
returns-clause-acts c =
    let over : link_all c.args.level c.names.left.now ≡ done (ok []) = link_over c.args.level c.names.left.now (omega arith) in
    subst (λ (text : List ℕ). EndsAt c.args.tree.now c.args.place (λ style. link_all c.args.level c.args.names.now) (tree_of c.names.tree) (Completed (ok text))) (sym c.empty.ensures)
    (way_ends c.args.tree.now c.names.tree c.args.place (λ style. link_all c.args.level c.args.names.now) (ok [])
    (subst (λ (x : Program). IsOnWay c.args.tree.now c.args.place (λ style. link_all c.args.level c.args.names.now) c.names.tree (λ style. x)) over c.names.invariant))
