use Rattle.std.proofs.Common.{◌≡◌, ◌∙◌, ap, subst, None}
use Rattle.std.specs.Map.{lookup, remove_entry}
use Rattle.std.specs.Str.{bytes_eq}
use Rattle.tcl_frames.specs.Entries.{Holds}
use Rattle.tcl_frames.proofs.FewLemmas.{place_removed, none_removed, distinct_removed}
use Rattle.tcl_frames.proofs.few_names.FewNames.remove.Goals as goal

pub invariant_of-self : goal.invariant_of-self
invariant_of-self g c =
    let q = c.args.name.now in
    let es = c.self.inside.entries.items in
    let holds = subst (λ ds. Holds q ds c.in-Some.place) c.as_slice.ensures.value c.in-Some.ensures in
    distinct_removed es _ q (c.remove.ensures.items ∙ place_removed es c.in-Some.place q c.self.invariant holds) c.self.invariant

pub returns-in-Some : goal.returns-in-Some
returns-in-Some g c =
    let q = c.args.name.now in
    let es = c.self.inside.entries.items in
    let holds = subst (λ ds. Holds q ds c.in-Some.place) c.as_slice.ensures.value c.in-Some.ensures in
    c.remove.ensures.items ∙ place_removed es c.in-Some.place q c.self.invariant holds ∙ ap (remove_entry (bytes_eq q)) c.self.view_is

pub returns-in-None : goal.returns-in-None
returns-in-None g c =
    let q = c.args.name.now in
    let none = subst (λ ds. lookup (bytes_eq q) ds ≡ None) (c.as_slice.ensures.value ∙ c.self.view_is) c.in-None.ensures in
    none_removed c.args.self.now q none
