use Rattle.std.proofs.Common.{◌≡◌, None, ◌∙◌, sym, subst}
use Rattle.std.specs.Map.{lookup}
use Rattle.std.specs.Str.{bytes_eq}
use Rattle.std.specs.String.{string_bytes}
use Rattle.std.proofs.lemmas.Map.Made.{lookup_key_passes}
use Rattle.tcl_frames.specs.Entries.{named, StandsAt}
use Rattle.tcl_frames.specs.Names.{Text}
use Rattle.tcl_frames.proofs.EntryLemmas.{lookup-named, same_bytes}
use Rattle.tcl_frames.proofs.many_names.hinted_place.Goals as goal

pub returns-then-is_at : goal.returns-then-is_at
returns-then-is_at g c = subst (λ (x : Text). StandsAt x c.args.entries.now.entries c.hint-hint.result) c.as_str.ensures (c.is_at.ensures c.if-is_at.true)

pub returns-in-Some : goal.returns-in-Some
returns-in-Some g c =
    let q = c.as_str-2.result.now in
    let es = c.args.entries.now.entries in
    let k = c.in-Some.field-0-1.now in
    let passes = lookup_key_passes (λ j. bytes_eq q (string_bytes j)) es k (sym c.in-Some.ensures.key) in
    (k, c.in-Some.field-0-2.now, c.in-Some.ensures.entry, sym (same_bytes q (string_bytes k) passes) ∙ c.as_str-2.ensures)

pub returns-in-None : goal.returns-in-None
returns-in-None g c =
    let es = c.args.entries.now.entries in
    subst (λ (x : Text). lookup (bytes_eq x) (named es) ≡ None) c.as_str-2.ensures (lookup-named c.as_str-2.result.now es ∙ sym c.in-None.ensures.value)
