use Rattle.std.proofs.Common.{◌≡◌, ◌-◌, true, ℕ, List, take, drop, length, sym, ap, ◌∙◌, subst}
use Rattle.std.specs.Prelude.{Result, codes}
use Rattle.std.proofs.lemmas.Result.{err_from_is_err_and}
use Rattle.tcl_core.specs.Paths.{Text}
use Rattle.tcl_run.specs.Ends.{IsFailure, itself}
use Rattle.tcl_run.proofs.Endings.{ended_err}
use Rattle.tcl_language.specs.Words.{is_level}
use Rattle.tcl_text.proofs.Emptiness.{some_is, zero_is}
use Rattle.tcl_calls.specs.Levels.{level_at_node, script_level}
use Rattle.tcl_calls.proofs.Levelling.{alone_level, with_fails, with_level, without_level}
use Rattle.tcl_calls.proofs.levels.script_level.Goals.{else-not-is_empty-via-then-not-is_empty+else-is_level, else-not-is_empty-via-else-not-is_empty}
use Rattle.tcl_calls.proofs.levels.script_level.Goals as goal

pub returns-in_err-named_level : goal.returns-in_err-named_level
returns-in_err-named_level c = λ q n at there.
    let p = err_from_is_err_and c.from_residual-in_err-named_level.result c.from_residual-in_err-named_level.ensures.1 in
    let rest = take (length c.args.args.now - 1) (drop 1 c.args.args.now) in
    let some = some_is (length rest) c.is_empty.result c.is_empty.ensures c.if-not-is_empty.true in
    let level : is_level c.word-item.result ≡ true = ap is_level (sym (c.as_bytes.ensures.value ∙ c.as_str.ensures ∙ c.in_ok-word.ensures)) ∙ sym c.is_level.ensures ∙ c.if-is_level.true in
    let word : c.as_str-then-is_level.result.now ≡ c.word-item.result = c.as_str-then-is_level.ensures ∙ c.in_ok-word.ensures in
    ended_err c.from_residual-in_err-named_level.result c.in_err-named_level.field-0.0 p.0 _ _ _ p.1 p.2 (c.in_err-named_level.ensures q n at there)
    (λ e h. subst (λ (r : Result (ℕ × List Text) Text). IsFailure itself r e) (sym (with_level c.args.tree.now.integers n c.args.args.now c.word-item.result c.in-len1-up.len_at_least c.word-item.is some level))
    (with_fails (level_at_node c.args.tree.now.integers n c.word-item.result) rest e (subst (λ (w : Text). IsFailure itself (level_at_node c.args.tree.now.integers n w) e) word h)))

pub returns-in_err-named_level-2 : goal.returns-in_err-named_level-2
returns-in_err-named_level-2 c = λ q n at there.
    let p = err_from_is_err_and c.from_residual-in_err-named_level-2.result c.from_residual-in_err-named_level-2.ensures.1 in
    let same : script_level c.args.tree.now.integers n c.args.args.now ≡ Rattle.tcl_calls.specs.Levels.with_script (level_at_node c.args.tree.now.integers n (codes "1")) c.args.args.now = elim c.else-not-is_empty.branch [
      | else-not-is_empty-via-then-not-is_empty+else-is_level w ↦ without_level c.args.tree.now.integers n c.args.args.now c.word-item.result c.in-len1-up.len_at_least c.word-item.is
          (ap is_level (sym (w.as_bytes.ensures.value ∙ w.as_str.ensures ∙ c.in_ok-word.ensures)) ∙ sym w.is_level.ensures ∙ w.if-is_level.false)
      | else-not-is_empty-via-else-not-is_empty w ↦ alone_level c.args.tree.now.integers n c.args.args.now c.word-item.result c.in-len1-up.len_at_least (zero_is _ c.is_empty.result c.is_empty.ensures w.if-not-is_empty.false)
    ] in
    ended_err c.from_residual-in_err-named_level-2.result c.in_err-named_level-2.field-0.0 p.0 _ _ _ p.1 p.2 (c.in_err-named_level-2.ensures q n at there)
    (λ e h. subst (λ (r : Result (ℕ × List Text) Text). IsFailure itself r e) (sym same) (with_fails (level_at_node c.args.tree.now.integers n (codes "1")) c.args.args.now e h))
