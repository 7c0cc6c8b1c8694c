use Rattle.std.proofs.Common.{◌∙◌, sym, ap, length, Some, None, zero-add}
use Rattle.std.specs.Str.{chars}
use Rattle.memchr.specs.Find.{FindsLastNeedle}
use Rattle.tcl_characters.proofs.ByteLemmas.{occurs_boundary, absent_from_none, found_last, filled, over_texts}
use Rattle.tcl_characters.proofs.StandLemmas.{none_last}
use Rattle.tcl_characters.proofs.places.last_within.Goals as goal

pub returns-in_err-at : goal.returns-in_err-at
returns-in_err-at c =
    let none = over_texts (λ t n. FindsLastNeedle t n None) c.as_bytes.ensures.value c.as_bytes-2.ensures.value c.in_err-at.ensures in
    c.from_residual.ensures ∙ sym (none_last _ _ 0 (absent_from_none c.args.text.now c.args.needle.now c.utf8.text c.utf8.needle none))

pub split_at-requires : goal.split_at-requires
split_at-requires c =
    let found = over_texts (λ t n. FindsLastNeedle t n (Some c.in_ok-at.at)) c.as_bytes.ensures.value c.as_bytes-2.ensures.value c.in_ok-at.ensures in
    occurs_boundary c.args.text.now c.args.needle.now c.in_ok-at.at c.utf8.needle (filled c.args.needle.now c.requires) found.1

pub returns : goal.returns
returns c =
    let found = over_texts (λ t n. FindsLastNeedle t n (Some c.in_ok-at.at)) c.as_bytes.ensures.value c.as_bytes-2.ensures.value c.in_ok-at.ensures in
    ap Some (c.character_count.ensures ∙ ap (λ t. length (chars t)) c.split_at.ensures.front)
    ∙ ap Some (sym (zero-add _)) ∙ sym (found_last c.args.text.now c.args.needle.now c.in_ok-at.at 0 c.utf8.text c.utf8.needle (filled c.args.needle.now c.requires) found.1 found.0.after)
