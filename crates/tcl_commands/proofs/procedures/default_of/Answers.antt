use Rattle.std.proofs.Common.{◌≡◌, ℕ, List, [], ◌∷◌, Option, ap, subst, ◌∙◌}
use Rattle.std.proofs.lemmas.Result.{err_from_is_err_and}
use Rattle.tcl_language.specs.Procedures as procedures
use Rattle.tcl_run.specs.Plain.{Acts}
use Rattle.tcl_text.proofs.Items.{three_items}
use Rattle.tcl_commands.proofs.ArrayEnds.{by_words, procedure_fails, procedure_gives}
use Rattle.tcl_commands.proofs.Going.{passed_acts}
use Rattle.tcl_commands.proofs.procedures.default_of.Goals as goal

pub returns-in_err-procedure-in-len3-clause-acts : goal.returns-in_err-procedure-in-len3-clause-acts
returns-in_err-procedure-in-len3-clause-acts c =
    let t = c.args.tree.now in
    let word = c.name-item.result in
    let parameter = c.parameter-item.result in
    let variable = c.variable-item.result in
    let p = err_from_is_err_and c.from_residual.result c.from_residual.ensures.1 in
    by_words t t c.args.place procedures.default_of c.args.args.now (word ∷ parameter ∷ variable ∷ []) c.from_residual.result
    (three_items c.args.args.now word parameter variable c.in-len3.len_at_least c.in-len3.len_below c.name-item.is c.parameter-item.is c.variable-item.is)
    (passed_acts t t c.args.place (λ style. procedures.default_of (word ∷ parameter ∷ variable ∷ [])) c.in_err-procedure-in-len3.field-0.0 p.0 c.from_residual.result p.1 p.2
    (procedure_fails t c.args.place word (λ q. procedures.stores_default parameter variable (procedures.default_in parameter q.parameters)) c.in_err-procedure-in-len3.field-0.0 c.in_err-procedure-in-len3.ensures))

pub returns-in_ok-found-in-len3-clause-acts : goal.returns-in_ok-found-in-len3-clause-acts
returns-in_ok-found-in-len3-clause-acts c =
    let t = c.args.tree.now in
    let u = c.store_default.new.tree in
    let word = c.name-item.result in
    let parameter = c.parameter-item.result in
    let variable = c.variable-item.result in
    let procedure = c.in_ok-procedure-in-len3.procedure in
    let found : c.in_ok-found-in-len3.found ≡ procedures.default_in parameter procedure.parameters =
    c.in_ok-found-in-len3.ensures ∙ ap (λ (x : List ℕ). procedures.default_in x c.parameters.result.now) c.in_ok-wanted-in-len3.ensures ∙ ap (procedures.default_in parameter) c.parameters.ensures in
    by_words t u c.args.place procedures.default_of c.args.args.now (word ∷ parameter ∷ variable ∷ []) c.store_default.result
    (three_items c.args.args.now word parameter variable c.in-len3.len_at_least c.in-len3.len_below c.name-item.is c.parameter-item.is c.variable-item.is)
    (procedure_gives t c.args.place word (λ q. procedures.stores_default parameter variable (procedures.default_in parameter q.parameters)) procedure u c.store_default.result c.in_ok-procedure-in-len3.ensures
    (subst (λ (o : Option (Option (List ℕ))). Acts t c.args.place (λ style. procedures.stores_default parameter variable o) u c.store_default.result) found c.store_default.ensures.acts))
