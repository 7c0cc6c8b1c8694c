use Rattle.std.proofs.Common.{◌∙◌, ap, subst, sym}
use Rattle.std.specs.Map.{lookup}
use Rattle.std.specs.Str.{bytes_eq}
use Rattle.tcl_frames.specs.Entries.{Holds}
use Rattle.tcl_frames.proofs.FewLemmas.{place_found}
use Rattle.tcl_frames.proofs.few_names.FewNames.get_short.Goals as goal

pub returns-then-stands_short_at : goal.returns-then-stands_short_at
returns-then-stands_short_at g c =
    let q = c.args.name.now in
    let stands = subst (λ x. Holds x c.as_slice.result.now c.hint-place.result) c.text.ensures (c.stands_short_at.ensures c.if-stands_short_at.true) in
    let holds = subst (λ es. Holds q es c.hint-place.result) c.as_slice.ensures.value stands in
    sym (place_found c.self.inside.entries.items c.hint-place.result q c.index.result.now c.self.invariant holds c.index.ensures ∙ ap (lookup (bytes_eq q)) c.self.view_is)
