use Rattle.std.proofs.Common.{◌∙◌, sym, ap, refl}
use Rattle.std.specs.Map.{lookup, set_value}
use Rattle.std.specs.Str.{bytes_eq}
use Rattle.tcl_frames.specs.Entries.{named}
use Rattle.tcl_frames.proofs.EntryLemmas.{lookup-named, set-named, on_some, found_at, set_at}
use Rattle.tcl_frames.proofs.many_names.ManyNames.get_mut_hinted.Goals as goal

pub returns-in-Some : goal.returns-in-Some
returns-in-Some g c =
    let q = c.args.name.now in
    let es = c.self.inside.entries.entries in
    let place = c.in-Some.place in
    let stands = c.in-Some.ensures in (
      (
        refl,
        (λ w. on_some c.get_index_mut.result (ap named (set_at es place q w c.get_index_mut.ensures.unique stands) ∙ set-named q es w ∙ ap (λ fs. set_value (bytes_eq q) fs w) c.self.view_is)),
        c.self.view_is,
      ),
      record { writes_back = tt; value = c.get_index_mut.ensures.value ∙ found_at es place q c.get_index_mut.ensures.unique stands ∙ sym (lookup-named q es) ∙ ap (lookup (bytes_eq q)) c.self.view_is },
    )
