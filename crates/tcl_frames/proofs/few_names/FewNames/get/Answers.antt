use Rattle.std.proofs.Common.{◌∙◌, ap, subst}
use Rattle.std.specs.Map.{lookup}
use Rattle.std.specs.Str.{bytes_eq}
use Rattle.tcl_frames.specs.Entries.{Holds}
use Rattle.tcl_frames.proofs.FewLemmas.{place_found}
use Rattle.tcl_frames.proofs.few_names.FewNames.get.Goals as goal

pub returns-in-Some : goal.returns-in-Some
returns-in-Some g c =
    let holds = subst (λ es. Holds c.args.name.now es c.in-Some.place) c.as_slice.ensures.value c.in-Some.ensures in
    place_found c.self.inside.entries.items c.in-Some.place c.args.name.now c.index.result.now c.self.invariant holds c.index.ensures
    ∙ ap (lookup (bytes_eq c.args.name.now)) c.self.view_is
