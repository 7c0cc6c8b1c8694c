use Rattle.std.proofs.Common.{◌∙◌, sym, ap}
use Rattle.std.specs.Map.{lookup}
use Rattle.std.specs.Str.{bytes_eq}
use Rattle.indexmap.specs.IndexMap.{insert_entry}
use Rattle.tcl_frames.proofs.FewLemmas.{distinct_push, insert_absent}
use Rattle.tcl_frames.proofs.few_names.FewNames.push.Goals as goal

pub invariant_of-self-2 : goal.invariant_of-self-2
invariant_of-self-2 g c =
    let es = c.self.inside.entries.items in
    distinct_push es _ c.args.name c.args.value c.in_ok-push.ensures.items (ap (lookup (bytes_eq c.args.name)) c.self.view_is ∙ c.requires) c.self.invariant

pub returns-clause-pushed : goal.returns-clause-pushed
returns-clause-pushed g c =
    let es = c.self.inside.entries.items in
    c.in_ok-push.ensures.items
    ∙ sym (insert_absent es c.args.name c.args.value (ap (lookup (bytes_eq c.args.name)) c.self.view_is ∙ c.requires))
    ∙ ap (λ ds. insert_entry bytes_eq ds c.args.name c.args.value) c.self.view_is
