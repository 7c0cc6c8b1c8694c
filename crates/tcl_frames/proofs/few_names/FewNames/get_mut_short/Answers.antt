use Rattle.std.proofs.Common.{◌∙◌, ap, subst, sym, refl}
use Rattle.std.specs.Map.{lookup, set_value}
use Rattle.std.specs.Str.{bytes_eq}
use Rattle.tcl_frames.specs.Entries.{Holds}
use Rattle.tcl_frames.proofs.FewLemmas.{place_found, place_set, distinct_set}
use Rattle.tcl_frames.proofs.few_names.FewNames.get_mut_short.Goals as goal

pub invariant_of-self-lent : goal.invariant_of-self-lent
invariant_of-self-lent g c = λ w.
    let q = c.args.name.now in
    let es = c.self.inside.entries.items in
    let stands = subst (λ x. Holds x c.as_slice.result.now c.hint-place.result) c.text.ensures (c.stands_short_at.ensures c.if-stands_short_at.true) in
    let holds = subst (λ ds. Holds q ds c.hint-place.result) c.as_slice.ensures.value stands in
    distinct_set es _ q w (place_set es c.hint-place.result q c.in-Some.entry.now w c.self.invariant holds c.in-Some.ensures.value) c.self.invariant

pub returns-in-Some : goal.returns-in-Some
returns-in-Some g c =
    let q = c.args.name.now in
    let es = c.self.inside.entries.items in
    let stands = subst (λ x. Holds x c.as_slice.result.now c.hint-place.result) c.text.ensures (c.stands_short_at.ensures c.if-stands_short_at.true) in
    let holds = subst (λ ds. Holds q ds c.hint-place.result) c.as_slice.ensures.value stands in (
      (
        refl,
        (λ w. place_set es c.hint-place.result q c.in-Some.entry.now w c.self.invariant holds c.in-Some.ensures.value ∙ ap (λ ds. set_value (bytes_eq q) ds w) c.self.view_is),
        refl,
      ),
      record { writes_back = tt; value = sym (place_found es c.hint-place.result q c.in-Some.entry.now c.self.invariant holds c.in-Some.ensures.value ∙ ap (lookup (bytes_eq q)) c.self.view_is) },
    )
