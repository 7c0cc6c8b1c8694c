use Rattle.std.proofs.Common.{◌≡◌, ◌<◌, ◌≤◌, ◌∙◌, true, false, ap, length, rules, arith, sym, subst}
use Rattle.std.proofs.lemmas.Str.{IsUtf8-string_bytes}
use Rattle.std.specs.Str.{IsUtf8}
use Rattle.std.specs.String.{string_bytes}
use Rattle.tcl_core.specs.Endings.Reply.{Completed}
use Rattle.tcl_core.specs.Paths.{Text}
use Rattle.tcl_language.specs.Hosting.{not_utf8}
use Rattle.tcl_run.specs.Ends.{failing}
use Rattle.tcl_run.proofs.Endings.{Interrupts-more}
use Rattle.tcl_value.specs.Limits.{IsWithin}
use Rattle.tcl_calls.proofs.Hosted.{reads_bad, reads_long, reads_whole}
use Rattle.tcl_calls.proofs.replies.value_read.Goals as goal

pub returns-then-len-gt-MOST_BYTES : goal.returns-then-len-gt-MOST_BYTES
returns-then-len-gt-MOST_BYTES c =
    let long : 16777216 < length c.args.bytes = omega (arith, c.len.ensures, c.if-len-gt-MOST_BYTES.true) in
    Interrupts-more c.too_long.result _ _ (λ e h k. reads_long c.args.name.now c.args.bytes e long h k) c.too_long.ensures

pub short_value-requires : goal.short_value-requires
short_value-requires c =
    let within : length c.args.bytes ≤ 16777216 = omega (arith, c.len.ensures, c.if-len-gt-MOST_BYTES.false) in
    let same : string_bytes c.in-Ok.text ≡ c.args.bytes = search rules in
    subst IsWithin (sym same) within

pub returns-in-Ok : goal.returns-in-Ok
returns-in-Ok c = λ k.
    let within : length c.args.bytes ≤ 16777216 = omega (arith, c.len.ensures, c.if-len-gt-MOST_BYTES.false) in
    let same : string_bytes c.in-Ok.text ≡ c.args.bytes = search rules in
    reads_whole c.args.name.now c.args.bytes c.in_ok-short_value-in-Ok.field-0 within (subst IsUtf8 same (IsUtf8-string_bytes c.in-Ok.text)) (c.in_ok-short_value-in-Ok.ensures ∙ same) k

pub returns : goal.returns
returns c =
    let within : length c.args.bytes ≤ 16777216 = omega (arith, c.len.ensures, c.if-len-gt-MOST_BYTES.false) in
    Interrupts-more c.failure_quoting.result _ _
    (λ e h k. reads_bad c.args.name.now c.args.bytes e within (λ u. let clash : false ≡ true = c.in-Err.ensures.succeeds (subst IsUtf8 (sym c.into_vec.ensures) u) in cc)
    (h ∙ ap (λ (x : Text). Completed (failing (not_utf8 x))) c.as_str.ensures) k) c.failure_quoting.ensures
