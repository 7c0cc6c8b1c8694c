use Rattle.std.proofs.Common.{◌<◌, ◌∙◌, sym, ap, ◌+◌, length, Some, None, subst}
use Rattle.std.specs.Str.{chars}
use Rattle.memchr.specs.Find.{FindsNeedle}
use Rattle.tcl_characters.specs.Places.{counted_from}
use Rattle.tcl_characters.proofs.ByteLemmas.{occurs_boundary, absent_from_none, found_first, found_within, filled, over_texts}
use Rattle.tcl_characters.proofs.StandLemmas.{none_first}
use Rattle.tcl_characters.proofs.places.first_within.Goals as goal

pub returns-in_err-at-clause-place : goal.returns-in_err-at-clause-place
returns-in_err-at-clause-place c = λ s.
    let none = over_texts (λ t n. FindsNeedle t n 0 None) c.as_bytes.ensures.value c.as_bytes-2.ensures.value c.in_err-at.ensures in
    ap (counted_from s) c.from_residual.ensures ∙ sym (none_first _ _ s (absent_from_none c.args.text.now c.args.needle.now c.utf8.text c.utf8.needle none))

pub split_at-requires : goal.split_at-requires
split_at-requires c =
    let found = over_texts (λ t n. FindsNeedle t n 0 (Some c.in_ok-at.at)) c.as_bytes.ensures.value c.as_bytes-2.ensures.value c.in_ok-at.ensures in
    occurs_boundary c.args.text.now c.args.needle.now c.in_ok-at.at c.utf8.needle (filled c.args.needle.now c.requires) found.1

pub returns-clause-place : goal.returns-clause-place
returns-clause-place c = λ s.
    let found = over_texts (λ t n. FindsNeedle t n 0 (Some c.in_ok-at.at)) c.as_bytes.ensures.value c.as_bytes-2.ensures.value c.in_ok-at.ensures in
    ap (λ n. Some (s + n)) (c.character_count.ensures ∙ ap (λ t. length (chars t)) c.split_at.ensures.front)
    ∙ sym (found_first c.args.text.now c.args.needle.now c.in_ok-at.at s c.utf8.text c.utf8.needle (filled c.args.needle.now c.requires) found.1 found.0.before)

pub returns-clause-within : goal.returns-clause-within
returns-clause-within c =
    let found = over_texts (λ t n. FindsNeedle t n 0 (Some c.in_ok-at.at)) c.as_bytes.ensures.value c.as_bytes-2.ensures.value c.in_ok-at.ensures in
    subst (λ n. n < length (chars c.args.text.now)) (sym (c.character_count.ensures ∙ ap (λ t. length (chars t)) c.split_at.ensures.front))
    (found_within c.args.text.now c.args.needle.now c.in_ok-at.at c.utf8.text c.utf8.needle (filled c.args.needle.now c.requires) found.1)
