use Rattle.std.proofs.Common.{◌∙◌, sym, ap, refl}
use Rattle.std.specs.Map.{lookup, set_value}
use Rattle.std.specs.Str.{bytes_eq}
use Rattle.tcl_frames.specs.Entries.{named}
use Rattle.tcl_frames.proofs.EntryLemmas.{lookup-named, set-named, on_some}
use Rattle.tcl_frames.proofs.many_names.ManyNames.get_mut.Goals as goal

pub returns : goal.returns
returns g c =
    let q = c.args.name.now in
    let es = c.self.inside.entries.entries in (
      (
        refl,
        (λ w. on_some c.get_mut.result (ap named (c.get_mut.follows.holds w).0 ∙ set-named q es w ∙ ap (λ fs. set_value (bytes_eq q) fs w) c.self.view_is)),
        ap (λ m. named m.entries) c.get_mut.follows.holds-at-none ∙ c.self.view_is,
      ),
      c.get_mut.ensures.value ∙ sym (lookup-named q es) ∙ ap (lookup (bytes_eq q)) c.self.view_is,
    )
