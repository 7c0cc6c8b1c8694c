use Rattle.std.proofs.Common.{length, get_or, Some, None}
use Rattle.std.proofs.lemmas.Str.{IsCharBoundary-end}
use Rattle.memchr.specs.Find.{IsFirstByte, is_byte}
use Rattle.tcl_text.proofs.Emptiness.{is_filled}
use Rattle.tcl_characters.proofs.ByteLemmas.{over_texts}
use Rattle.tcl_characters.proofs.SkipLemmas.{skipped, lead_boundary}
use Rattle.tcl_characters.proofs.mapping.behind_others.Goals as goal

pub range_from-requires : goal.range_from-requires
range_from-requires c = λ _.
    let found = over_texts (λ t k. IsFirstByte (is_byte (get_or k 0 0)) t (Some c.in-Some.at)) c.as_bytes.ensures.value c.as_bytes-bytes.ensures.value c.in-Some.ensures in
    let some = is_filled c.args.only_key.now c.is_empty.result c.is_empty.ensures c.if-is_empty.false in
    lead_boundary c.args.only_key.now c.args.text.now c.in-Some.at c.utf8.only_key some found.0.high found.1

pub returns-in-Some : goal.returns-in-Some
returns-in-Some c =
    let found = over_texts (λ t k. IsFirstByte (is_byte (get_or k 0 0)) t (Some c.in-Some.at)) c.as_bytes.ensures.value c.as_bytes-bytes.ensures.value c.in-Some.ensures in
    let some = is_filled c.args.only_key.now c.is_empty.result c.is_empty.ensures c.if-is_empty.false in
    let cut = lead_boundary c.args.only_key.now c.args.text.now c.in-Some.at c.utf8.only_key some found.0.high found.1 in
    skipped c.args.only_key.now c.args.text.now c.range_from.result.now c.in-Some.at c.utf8.only_key c.utf8.text some cut found.0.before c.range_from.ensures.value

pub returns-in-None : goal.returns-in-None
returns-in-None c =
    let none = over_texts (λ t k. IsFirstByte (is_byte (get_or k 0 0)) t None) c.as_bytes.ensures.value c.as_bytes-bytes.ensures.value c.in-None.ensures in
    let some = is_filled c.args.only_key.now c.is_empty.result c.is_empty.ensures c.if-is_empty.false in
    let end = IsCharBoundary-end c.args.text.now in
    skipped c.args.only_key.now c.args.text.now c.range_from-in-None.result.now (length c.args.text.now) c.utf8.only_key c.utf8.text some end none c.range_from-in-None.ensures.value
