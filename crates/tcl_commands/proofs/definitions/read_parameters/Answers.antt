use Rattle.std.proofs.Common.{◌≡◌, ◌+◌, ℕ, List, [], ◌∷◌, ◌++◌, drop, get_or, length, sym, ap, subst, ◌∙◌, arith}
use Rattle.std.proofs.lemmas.Result.{err_from_is_err_and}
use Rattle.tcl_language.specs.Instructions.{Program}
use Rattle.tcl_run.proofs.Endings.{at_err}
use Rattle.tcl_interpreter.specs.declared.parameter.Parameter.{Parameter}
use Rattle.tcl_text.proofs.Items.{item_on}
use Rattle.tcl_commands.specs.Ending.{EndsSo}
use Rattle.tcl_commands.specs.Parameters.{parameters_from, reads_parameter}
use Rattle.tcl_commands.proofs.Defining.{parameters_end, parameters_more}
use Rattle.tcl_commands.proofs.definitions.read_parameters.Goals as goal

pub texts-preserved : goal.texts-preserved
texts-preserved c =
    let texts = c.in_ok-texts.texts in
    let item : drop c.texts.index texts ≡ c.in_ok-get.field-0 ∷ drop (c.texts.index + 1) texts =
    item_on texts c.texts.index c.in_ok-get.field-0 (omega arith) c.in_ok-get.ensures in
    λ k. c.texts.invariant k
    ∙ parameters_more (drop c.texts.index texts) c.in_ok-get.field-0 (drop (c.texts.index + 1) texts) c.texts.made.items c.push.new.self.items c.in_ok-parameter.parameter k item
    (subst (λ (before : List Parameter). (k : List Parameter → Program) → reads_parameter c.in_ok-get.field-0 before k ≡ k (before ++ c.in_ok-parameter.parameter ∷ [])) c.as_slice.ensures.value c.in_ok-parameter.ensures.made)
    c.in_ok-push.ensures.items

pub returns-in_err-parameter-clause-refused : goal.returns-in_err-parameter-clause-refused
returns-in_err-parameter-clause-refused c =
    let texts = c.in_ok-texts.texts in
    let item : drop c.texts.index texts ≡ c.in_ok-get.field-0 ∷ drop (c.texts.index + 1) texts =
    item_on texts c.texts.index c.in_ok-get.field-0 (omega arith) c.in_ok-get.ensures in
    let p = err_from_is_err_and c.from_residual-in_err-parameter.result c.from_residual-in_err-parameter.ensures.1 in
    at_err c.from_residual-in_err-parameter.result c.in_err-parameter.field-0.0 p.0 (λ e. (k : List Parameter → Program) → EndsSo (reads_parameter c.in_ok-get.field-0 c.as_slice.result.now k) e)
    (λ e. (k : List Parameter → Program) → EndsSo (parameters_from c.args.text.now k) e) p.1 p.2 c.in_err-parameter.ensures.refused
    (λ e h k. parameters_end (drop c.texts.index texts) c.in_ok-get.field-0 (drop (c.texts.index + 1) texts) c.texts.made.items k (parameters_from c.args.text.now k) e (c.texts.invariant k) item
    (subst (λ (before : List Parameter). (k : List Parameter → Program) → EndsSo (reads_parameter c.in_ok-get.field-0 before k) e) c.as_slice.ensures.value h))
