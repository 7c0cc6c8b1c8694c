use Rattle.std.proofs.Common.{◌∙◌, sym, ap}
use Rattle.std.proofs.lemmas.Result.{on_ok_weaker}
use Rattle.std.specs.Option.{option_map, option_copied}
use Rattle.tcl_frames.specs.Entries.{lent_entry}
use Rattle.tcl_frames.proofs.ArrayLemmas.{key_step}
use Rattle.tcl_frames.proofs.arrays.push_key.Goals as goal

pub returns : goal.returns
returns c =
    let at = sym c.entry.ensures ∙ ap (option_map lent_entry) c.in-Some.is in
    on_ok_weaker c.push_if.result (λ made. key_step (option_copied c.args.pattern) c.args.elements.now c.args.index (c.in-Some.key.now, c.in-Some.field-0-1.now) c.is_taken.result c.args.keys.now.items c.push_if.new.names.items at c.is_taken.ensures made) c.push_if.ensures
