use Rattle.std.proofs.Common.{◌≡◌, ℕ, ◌≤◌, true, false, List, drop, length, sym, subst, ◌∙◌, arith}
use Rattle.std.specs.Prelude.{codes, take, ◌-◌}
use Rattle.std.proofs.lemmas.Result.{err_from_is_err_and}
use Rattle.tcl_language.specs.Variables.{level}
use Rattle.tcl_language.specs.Variables as variables
use Rattle.tcl_run.specs.Ends.{Interrupts}
use Rattle.tcl_tree.specs.TreeOf.{tree_of}
use Rattle.tcl_commands.specs.Steps.{EndsAt, Leads, Styled}
use Rattle.tcl_commands.proofs.Linking.{upvar_acts, upvar_fails, upvar_level, upvar_plain}
use Rattle.tcl_commands.proofs.links.upvar.Goals as goal

pub returns-in_err-level-in-len1-up-clause-acts : goal.returns-in_err-level-in-len1-up-clause-acts
returns-in_err-level-in-len1-up-clause-acts c =
    let even : variables.is_odd c.args.args.now ≡ false = sym c.is_odd.ensures ∙ c.if-not-is_odd.true in
    let many : 2 ≤ length c.args.args.now = omega arith in
    let p = err_from_is_err_and c.from_residual.result c.from_residual.ensures.1 in
    upvar_fails c.args.tree.now c.args.tree.now c.args.place c.args.args.now (codes "1") c.args.args.now c.from_residual.result (λ style. upvar_plain style c.args.args.now many even)
    c.in_err-level-in-len1-up.field-0.0 p.0 p.1 p.2 c.in_err-level-in-len1-up.ensures

pub returns-then-not-is_odd-clause-acts : goal.returns-then-not-is_odd-clause-acts
returns-then-not-is_odd-clause-acts c =
    let even : variables.is_odd c.args.args.now ≡ false = sym c.is_odd.ensures ∙ c.if-not-is_odd.true in
    let many : 2 ≤ length c.args.args.now = omega arith in
    upvar_acts c.args.tree.now c.link_all.new.tree c.args.place c.args.args.now (codes "1") c.args.args.now c.link_all.result (λ style. upvar_plain style c.args.args.now many even)
    c.in_ok-level-in-len1-up.level c.in_ok-level-in-len1-up.ensures c.link_all.ensures.acts

pub returns-in_err-level-in-len1-up-2-clause-acts : goal.returns-in_err-level-in-len1-up-2-clause-acts
returns-in_err-level-in-len1-up-2-clause-acts c =
    let odd : variables.is_odd c.args.args.now ≡ true = sym c.is_odd.ensures ∙ c.if-not-is_odd.false in
    let many : 2 ≤ length c.args.args.now = omega arith in
    let word : c.as_str.result.now ≡ c.word-item.result = c.as_str.ensures ∙ c.in_ok-word-in-len1-up.ensures in
    let p = err_from_is_err_and c.from_residual-in_err-level-in-len1-up-2.result c.from_residual-in_err-level-in-len1-up-2.ensures.1 in
    upvar_fails c.args.tree.now c.args.tree.now c.args.place c.args.args.now c.word-item.result (take (length c.args.args.now - 1) (drop 1 c.args.args.now)) c.from_residual-in_err-level-in-len1-up-2.result
    (λ style. upvar_level style c.args.args.now c.word-item.result many odd c.word-item.is)
    c.in_err-level-in-len1-up-2.field-0.0 p.0 p.1 p.2
    (subst (λ (w : List ℕ). (rest : ℕ → Styled) → Interrupts c.in_err-level-in-len1-up-2.field-0.0 (EndsAt c.args.tree.now c.args.place (λ style. level style w (λ n. rest n style)) (tree_of c.args.tree.now))) word c.in_err-level-in-len1-up-2.ensures)

pub returns-in_ok-level-in-len1-up-2-clause-acts : goal.returns-in_ok-level-in-len1-up-2-clause-acts
returns-in_ok-level-in-len1-up-2-clause-acts c =
    let odd : variables.is_odd c.args.args.now ≡ true = sym c.is_odd.ensures ∙ c.if-not-is_odd.false in
    let many : 2 ≤ length c.args.args.now = omega arith in
    let word : c.as_str.result.now ≡ c.word-item.result = c.as_str.ensures ∙ c.in_ok-word-in-len1-up.ensures in
    upvar_acts c.args.tree.now c.link_all-in-len1-up.new.tree c.args.place c.args.args.now c.word-item.result (take (length c.args.args.now - 1) (drop 1 c.args.args.now)) c.link_all-in-len1-up.result
    (λ style. upvar_level style c.args.args.now c.word-item.result many odd c.word-item.is) c.in_ok-level-in-len1-up-2.level
    (subst (λ (w : List ℕ). (rest : ℕ → Styled) → Leads c.args.tree.now c.args.place (λ style. level style w (λ n. rest n style)) c.args.tree.now (rest c.in_ok-level-in-len1-up-2.level)) word c.in_ok-level-in-len1-up-2.ensures)
    c.link_all-in-len1-up.ensures.acts
