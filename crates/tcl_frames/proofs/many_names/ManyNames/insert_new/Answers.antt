use Rattle.std.proofs.Common.{◌∙◌, ap}
use Rattle.std.specs.Str.{bytes_eq}
use Rattle.std.specs.String.{string_bytes}
use Rattle.indexmap.specs.IndexMap.{insert_entry}
use Rattle.tcl_frames.specs.Entries.{named}
use Rattle.tcl_frames.proofs.EntryLemmas.{insert-named}
use Rattle.tcl_frames.proofs.many_names.ManyNames.insert_new.Goals as goal

pub returns-clause-inserted : goal.returns-clause-inserted
returns-clause-inserted g c =
    let v = c.args.value in
    let k = c.in_ok-name.name in
    ap named c.in_ok-insert.ensures.entries
    ∙ insert-named c.self.inside.entries.entries k v
    ∙ ap (λ es. insert_entry bytes_eq es (string_bytes k) v) c.self.view_is
    ∙ ap (λ x. insert_entry bytes_eq c.args.self.now x v) c.in_ok-name.ensures.ok
