use Rattle.std.proofs.Common.{◌≡◌, ◌<◌, ◌≤◌, ◌⊎◌, inl, inr, rules, true, false, length, sym, ap, subst, arith}
use Rattle.std.specs.Prelude.{Result, codes}
use Rattle.std.specs.Str.{bytes_eq}
use Rattle.tcl_core.specs.Paths.{Text}
use Rattle.tcl_language.specs.Trying.{Tried, tried_of}
use Rattle.tcl_run.specs.Ends.{IsFailure, itself}
use Rattle.tcl_run.proofs.Endings.{Interrupts-more}
use Rattle.tcl_text.proofs.Emptiness.{some_is, zero_is}
use Rattle.tcl_text.proofs.Items.{no_item, two_items}
use Rattle.tcl_calls.proofs.Handling.{few_unread, last_read, last_unread}
use Rattle.tcl_calls.proofs.trying.last_script.Goals.{in_default-via-then-words-lt2, in_default-via-else-words-lt2+else-words-lt3}
use Rattle.tcl_calls.proofs.trying.last_script.Goals as goal

pub returns-then-is_empty : goal.returns-then-is_empty
returns-then-is_empty c = λ style.
    let zero = zero_is (length c.args.words.now) c.is_empty.result c.is_empty.ensures c.if-is_empty.true in
    ap (tried_of style) (no_item c.args.words.now (omega (arith, zero)))

pub returns-then-is_text : goal.returns-then-is_text
returns-then-is_text c = λ style.
    let is = two_items c.args.words.now c.word-item.result c.script-item.result c.in-len2.len_at_least c.in-len2.len_below c.word-item.is c.script-item.is in
    let same : bytes_eq c.word-item.result (codes "finally") ≡ true = search rules in
    last_read style c.args.words.now c.word-item.result c.script-item.result is same

pub returns-else-is_text : goal.returns-else-is_text
returns-else-is_text c =
    let is = two_items c.args.words.now c.word-item.result c.script-item.result c.in-len2.len_at_least c.in-len2.len_below c.word-item.is c.script-item.is in
    let other : bytes_eq c.word-item.result (codes "finally") ≡ false = search rules in
    Interrupts-more c.wrong_args.result _ _ (λ e h style. subst (λ (r : Result Tried Text). IsFailure itself r e) (sym (last_unread style c.args.words.now c.word-item.result c.script-item.result is other)) h) c.wrong_args.ensures

pub returns-in_default : goal.returns-in_default
returns-in_default c =
    let some = some_is (length c.args.words.now) c.is_empty.result c.is_empty.ensures c.if-is_empty.false in
    let other : (length c.args.words.now < 2) ⊎ (3 ≤ length c.args.words.now) = elim c.in_default.branch [
      | in_default-via-then-words-lt2 w ↦ inl (grind arith)
      | in_default-via-else-words-lt2+else-words-lt3 w ↦ inr (grind arith)
    ] in
    Interrupts-more c.wrong_args-in_default.result _ _ (λ e h style. subst (λ (r : Result Tried Text). IsFailure itself r e) (sym (few_unread style c.args.words.now some c.requires other)) h) c.wrong_args-in_default.ensures
