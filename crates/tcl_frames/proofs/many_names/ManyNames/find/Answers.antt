use Rattle.std.proofs.Common.{◌∙◌, sym, ap, Some, slice_get}
use Rattle.std.specs.Map.{lookup}
use Rattle.std.specs.Str.{bytes_eq}
use Rattle.std.specs.Option.{option_map}
use Rattle.std.specs.String.{string_bytes}
use Rattle.std.proofs.lemmas.Map.Made.{lookup_key_passes}
use Rattle.tcl_frames.specs.Entries.{named_entry}
use Rattle.tcl_frames.specs.Names.{Text}
use Rattle.tcl_frames.proofs.EntryLemmas.{lookup-named, slice_get-named, same_bytes}
use Rattle.tcl_frames.proofs.many_names.ManyNames.find.Goals as goal

pub returns-in-Some-clause-value : goal.returns-in-Some-clause-value
returns-in-Some-clause-value g c = c.in-Some.ensures.value ∙ sym (lookup-named c.args.name.now c.self.inside.entries.entries) ∙ ap (lookup (bytes_eq c.args.name.now)) c.self.view_is

pub returns-in-None-clause-value : goal.returns-in-None-clause-value
returns-in-None-clause-value g c = c.in-None.ensures.value ∙ sym (lookup-named c.args.name.now c.self.inside.entries.entries) ∙ ap (lookup (bytes_eq c.args.name.now)) c.self.view_is

pub returns-in-Some-clause-place : goal.returns-in-Some-clause-place
returns-in-Some-clause-place g c =
    let q = c.args.name.now in
    let es = c.self.inside.entries.entries in
    let k = c.in-Some.field-0-1.now in
    let passes = lookup_key_passes (λ j. bytes_eq q (string_bytes j)) es k (sym c.in-Some.ensures.key) in
    sym (ap (λ fs. slice_get fs c.in-Some.place) c.self.view_is)
    ∙ slice_get-named es c.in-Some.place
    ∙ ap (option_map named_entry) c.in-Some.ensures.entry
    ∙ ap (λ (x : Text). Some (x, c.in-Some.value.now)) (sym (same_bytes q (string_bytes k) passes))
