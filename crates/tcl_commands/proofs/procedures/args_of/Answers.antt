use Rattle.std.proofs.Common.{[], ◌∷◌, ap, ◌∙◌}
use Rattle.std.proofs.lemmas.Result.{err_from_is_err_and}
use Rattle.tcl_language.specs.Instructions.{gives}
use Rattle.tcl_language.specs.Procedures as procedures
use Rattle.tcl_text.specs.Writing.{written_list}
use Rattle.tcl_text.proofs.Items.{one_item}
use Rattle.tcl_commands.proofs.ArrayEnds.{by_words, list_acts, procedure_fails, procedure_gives}
use Rattle.tcl_commands.proofs.Going.{passed_acts}
use Rattle.tcl_commands.proofs.procedures.args_of.Goals as goal

pub returns-in_err-procedure-in-len1 : goal.returns-in_err-procedure-in-len1
returns-in_err-procedure-in-len1 c =
    let t = c.args.tree.now in
    let word = c.name-item.result in
    let p = err_from_is_err_and c.from_residual.result c.from_residual.ensures.1 in
    by_words t t c.args.place procedures.args_of c.args.args.now (word ∷ []) c.from_residual.result (one_item c.args.args.now word c.in-len1.len_at_least c.in-len1.len_below c.name-item.is)
    (passed_acts t t c.args.place (λ style. procedures.args_of (word ∷ [])) c.in_err-procedure-in-len1.field-0.0 p.0 c.from_residual.result p.1 p.2
    (procedure_fails t c.args.place word (λ q. gives (written_list (procedures.parameter_names q.parameters))) c.in_err-procedure-in-len1.field-0.0 c.in_err-procedure-in-len1.ensures))

pub returns-in_ok-names-in-len1 : goal.returns-in_ok-names-in-len1
returns-in_ok-names-in-len1 c =
    let t = c.args.tree.now in
    let word = c.name-item.result in
    let procedure = c.in_ok-procedure-in-len1.procedure in
    by_words t t c.args.place procedures.args_of c.args.args.now (word ∷ []) c.list_value.result (one_item c.args.args.now word c.in-len1.len_at_least c.in-len1.len_below c.name-item.is)
    (procedure_gives t c.args.place word (λ q. gives (written_list (procedures.parameter_names q.parameters))) procedure t c.list_value.result c.in_ok-procedure-in-len1.ensures
    (list_acts t c.args.place c.as_slice.result.now (procedures.parameter_names procedure.parameters) c.list_value.result
    (c.as_slice.ensures.value ∙ c.in_ok-names-in-len1.ensures ∙ ap procedures.parameter_names c.parameters.ensures) c.list_value.ensures))
