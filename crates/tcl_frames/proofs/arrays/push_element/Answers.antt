use Rattle.std.proofs.Common.{◌∙◌, sym, ap}
use Rattle.std.proofs.lemmas.Result.{on_ok_weaker}
use Rattle.std.specs.Option.{option_map, option_copied}
use Rattle.tcl_frames.specs.Entries.{lent_entry}
use Rattle.tcl_frames.proofs.ArrayLemmas.{element_step}
use Rattle.tcl_frames.proofs.arrays.push_element.Goals as goal

pub returns : goal.returns
returns c =
    let at = sym c.entry.ensures ∙ ap (option_map lent_entry) c.in-Some.is in
    on_ok_weaker c.push_element_if.result (λ made. element_step (option_copied c.args.pattern) c.args.elements.now c.args.index (c.in-Some.key.now, c.in-Some.value.now) c.is_taken.result c.args.pairs.now.items c.push_element_if.new.elements.items at c.is_taken.ensures made) c.push_element_if.ensures
