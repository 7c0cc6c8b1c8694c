use Rattle.std.proofs.Common.{◌∙◌, ℤ, refl, sym, ap}
use Rattle.tcl_language.specs.Interpreters as interpreters
use Rattle.tcl_run.proofs.Endings.{ended_err}
use Rattle.tcl_tree.specs.TreeOf.{tree_of, marks_of}
use Rattle.std.proofs.Common.{Some}
use Rattle.std.proofs.lemmas.Result.{err_from_is_err_and}
use Rattle.tcl_text.specs.Numbers.{integer_of}
use Rattle.tcl_text.proofs.Fitting.{handed}
use Rattle.tcl_calls.proofs.Looks.{gets_as, gets_end, gets_failed, looks_then, is_program, untrue}
use Rattle.tcl_interp.proofs.Limiting.{no_limit, limit_fails, limit_goes}
use Rattle.tcl_interp.proofs.limits.limit_value.Goals as goal

pub returns-then-is_text : goal.returns-then-is_text
returns-then-is_text c = λ rest. gets_as c.args.tree.now c.args.place (λ style. interpreters.limit_value style c.args.word.now (λ l. rest l style)) _ (λ style. no_limit style c.args.word.now (λ l. rest l style) (c.is_text.ensures.0 c.if-is_text.true))

pub returns-in_err-n : goal.returns-in_err-n
returns-in_err-n c =
    let p = err_from_is_err_and c.from_residual.result c.from_residual.ensures.1 in
    ended_err c.from_residual.result c.in_err-n.field-0.0 p.0 _ _ _ p.1 p.2 c.in_err-n.ensures
    (λ e f rest. limit_fails c.args.tree.now c.args.place (marks_of c.args.tree.now).integers c.args.word.now e rest (untrue c.is_text.result _ c.is_text.ensures.1 c.if-is_text.false) refl f)

pub returns-in_err-count_of : goal.returns-in_err-count_of
returns-in_err-count_of c =
    let p = err_from_is_err_and c.from_residual-in_err-count_of.result c.from_residual-in_err-count_of.ensures.1 in
    ended_err c.from_residual-in_err-count_of.result c.in_err-count_of.field-0.0 p.0 _ _ _ p.1 p.2 c.in_err-count_of.ensures
    (λ e h rest. gets_end c.args.tree.now c.args.place _ (λ style. interpreters.limit_number c.args.word.now c.in_ok-n.n (λ m. rest (Some m) style)) e
    (limit_goes c.args.tree.now c.args.place (marks_of c.args.tree.now).integers c.args.word.now c.in_ok-n.n rest (untrue c.is_text.result _ c.is_text.ensures.1 c.if-is_text.false) refl c.in_ok-n.ensures)
    (gets_failed c.args.tree.now c.args.place (λ style. interpreters.limit_number c.args.word.now c.in_ok-n.n (λ m. rest (Some m) style)) (interpreters.bad_count c.args.word.now) e
    (λ style. ap (λ (z : ℤ). interpreters.limit_number c.args.word.now z (λ m. rest (Some m) style)) (sym (handed (integer_of (marks_of c.args.tree.now).integers c.args.word.now) c.in_ok-n.n c.in_ok-n.ensures) ∙ h.1)) h.2))

pub returns : goal.returns
returns c = λ rest p style at.
    looks_then (limit_goes c.args.tree.now c.args.place (marks_of c.args.tree.now).integers c.args.word.now c.in_ok-n.n rest (untrue c.is_text.result _ c.is_text.ensures.1 c.if-is_text.false) refl c.in_ok-n.ensures p style at)
    (is_program (tree_of c.args.tree.now) p _ _ (ap (λ (z : ℤ). interpreters.limit_number c.args.word.now z (λ m. rest (Some m) style)) (sym (handed (integer_of (marks_of c.args.tree.now).integers c.args.word.now) c.in_ok-n.n c.in_ok-n.ensures) ∙ c.in_ok-count_of.ensures)))
