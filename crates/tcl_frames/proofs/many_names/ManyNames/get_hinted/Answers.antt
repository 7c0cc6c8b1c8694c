use Rattle.std.proofs.Common.{◌∙◌, sym, ap}
use Rattle.std.specs.Map.{lookup}
use Rattle.std.specs.Str.{bytes_eq}
use Rattle.tcl_frames.proofs.EntryLemmas.{got_at}
use Rattle.tcl_frames.proofs.many_names.ManyNames.get_hinted.Goals as goal

pub returns-in-Some-get_index : goal.returns-in-Some-get_index
returns-in-Some-get_index g c =
    let q = c.args.name.now in
    got_at c.self.inside.entries.entries c.in-Some.place q c.in-Some-get_index.field-0-0.now c.in-Some-get_index.value.now (sym c.in-Some-get_index.ensures.entry) c.in-Some.ensures c.in-Some-get_index.ensures.value
    ∙ ap (lookup (bytes_eq q)) c.self.view_is
