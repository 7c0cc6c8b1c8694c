use Rattle.std.proofs.Common.{◌<◌, ◌∙◌, ap, subst, refl, arith, vec_len}
use Rattle.std.specs.Map.{lookup, set_value}
use Rattle.std.specs.Str.{bytes_eq}
use Rattle.tcl_frames.specs.Entries.{Holds}
use Rattle.tcl_frames.proofs.FewLemmas.{place_found, place_set, distinct_set, holds_within}
use Rattle.tcl_frames.proofs.few_names.FewNames.get_mut_hinted.Goals as goal

pub invariant_of-self-lent : goal.invariant_of-self-lent
invariant_of-self-lent g c = λ w.
    let q = c.args.name.now in
    let es = c.self.inside.entries.items in
    let holds = subst (λ ds. Holds q ds c.in-Some.place) c.as_slice.ensures.value c.in-Some.ensures in
    distinct_set es _ q w (place_set es c.in-Some.place q c.in-Some-get_mut.entry.now w c.self.invariant holds c.in-Some-get_mut.ensures.value) c.self.invariant

pub returns-in-Some-get_mut : goal.returns-in-Some-get_mut
returns-in-Some-get_mut g c =
    let q = c.args.name.now in
    let es = c.self.inside.entries.items in
    let holds = subst (λ ds. Holds q ds c.in-Some.place) c.as_slice.ensures.value c.in-Some.ensures in (
      (
        refl,
        (λ w. place_set es c.in-Some.place q c.in-Some-get_mut.entry.now w c.self.invariant holds c.in-Some-get_mut.ensures.value ∙ ap (λ ds. set_value (bytes_eq q) ds w) c.self.view_is),
        refl,
      ),
      record { writes_back = tt; value = place_found es c.in-Some.place q c.in-Some-get_mut.entry.now c.self.invariant holds c.in-Some-get_mut.ensures.value ∙ ap (lookup (bytes_eq q)) c.self.view_is },
    )

pub returns-in-None-get_mut : goal.returns-in-None-get_mut
returns-in-None-get_mut g c =
    let within = holds_within c.as_slice.result.now c.in-Some.place c.args.name.now c.in-Some.ensures in
    let there : c.in-Some.place < vec_len c.self.inside.entries = omega (arith, within, c.as_slice.ensures.len) in
    let found = c.in-None-get_mut.ensures.variant.1 there in
    absurd (cc)
