use Rattle.std.proofs.Common.{◌∙◌, sym, ap, Some, slice_get}
use Rattle.std.specs.Option.{option_map}
use Rattle.std.specs.Map.Iter.{deref_pair}
use Rattle.tcl_frames.specs.Entries.{named_entry}
use Rattle.tcl_frames.specs.Names.{Text}
use Rattle.tcl_frames.proofs.EntryLemmas.{slice_get-named}
use Rattle.tcl_frames.proofs.many_names.ManyNames.entry.Goals as goal

pub returns-in-Some : goal.returns-in-Some
returns-in-Some g c =
    let at = sym (ap (option_map deref_pair) c.in-Some.is) ∙ c.get_index.ensures.entry in
    ap (λ (x : Text). Some (x, c.in-Some.value.now)) c.as_str.ensures.value
    ∙ ap (option_map named_entry) at
    ∙ sym (slice_get-named c.self.inside.entries.entries c.args.index)
    ∙ ap (λ es. slice_get es c.args.index) c.self.view_is

pub returns-in-None : goal.returns-in-None
returns-in-None g c =
    let at = sym (ap (option_map deref_pair) c.in-None.is) ∙ c.get_index.ensures.entry in
    ap (option_map named_entry) at
    ∙ sym (slice_get-named c.self.inside.entries.entries c.args.index)
    ∙ ap (λ es. slice_get es c.args.index) c.self.view_is
