use Rattle.std.proofs.Common.{◌∙◌, ap, is_some}
use Rattle.std.specs.Map.{lookup}
use Rattle.std.specs.Str.{bytes_eq}
use Rattle.tcl_frames.proofs.FewLemmas.{is_there}
use Rattle.tcl_frames.proofs.few_names.FewNames.has.Goals as goal

pub returns : goal.returns
returns g c =
    let q = c.args.name.now in
    c.is_some.ensures
    ∙ is_there c.as_slice.result.now q c.place_of_text.result c.place_of_text.ensures
    ∙ ap (λ es. is_some (lookup (bytes_eq q) es)) (c.as_slice.ensures.value ∙ c.self.view_is)
