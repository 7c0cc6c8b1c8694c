use Rattle.std.proofs.Common.{◌∙◌, [], ap, sym, subst, reverse, length, arith}
use Rattle.std.specs.List.{IsDistinct}
use Rattle.std.specs.Map.{keys_of}
use Rattle.std.specs.Str.{bytes_eq}
use Rattle.indexmap.specs.IndexMap.{insert_all}
use Rattle.tcl_frames.specs.Entries.{named}
use Rattle.tcl_frames.proofs.FewLemmas.{all_inserted}
use Rattle.tcl_frames.proofs.many_names.ManyNames.of_few.Goals as goal

pub returns-clause-made : goal.returns-clause-made
returns-clause-made g c =
    let held = c.into_entries-held.ensures.entries ∙ c.replace.ensures.value in
    c.insert_reserved.ensures
    ∙ ap (λ ds. insert_all bytes_eq (named ds) (reverse (named c.renamed.result.items))) c.in_ok-entries.ensures.empty
    ∙ ap (insert_all bytes_eq []) (c.renamed.ensures.entries ∙ held)
    ∙ all_inserted [] c.args.few.now (subst (λ ds. IsDistinct bytes_eq (keys_of ds)) c.replace.ensures.value c.into_entries-held.ensures.distinct)

pub renamed-requires-clause-as_many : goal.renamed-requires-clause-as_many
renamed-requires-clause-as_many g c =
    c.in_ok-names.ensures.as_many ∙ ap length (sym c.replace.ensures.value) ∙ sym c.into_entries-held.ensures.as_many

pub renamed-requires-clause-room : goal.renamed-requires-clause-room
renamed-requires-clause-room g c =
    let held = c.into_entries-held.ensures.as_many ∙ ap length c.replace.ensures.value in
    omega (arith, held, c.in_ok-keyed.ensures.capacity, c.len.ensures)
