use Rattle.std.proofs.Common.{◌∙◌, sym, ap}
use Rattle.std.specs.Option.{option_map}
use Rattle.std.specs.Map.Iter.{deref_pair}
use Rattle.tcl_frames.proofs.EntryLemmas.{same_bytes}
use Rattle.tcl_frames.proofs.many_names.is_at.Goals as goal

pub returns-in-Some : goal.returns-in-Some
returns-in-Some g c =
    let at = sym (ap (option_map deref_pair) c.in-Some.is) ∙ c.get_index.ensures.entry in
    λ h. (c.in-Some.key.now, c.in-Some.field-0-1.now, sym at, sym c.as_str.ensures.value ∙ same_bytes c.as_str.result.now c.args.name.now (sym c.eq.ensures ∙ h))
