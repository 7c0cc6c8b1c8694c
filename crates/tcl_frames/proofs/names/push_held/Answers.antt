use Rattle.std.proofs.Common.{◌∙◌, sym, ap}
use Rattle.std.proofs.lemmas.Result.{on_ok_weaker}
use Rattle.std.specs.Option.{option_map, option_copied}
use Rattle.tcl_frames.specs.Access.{is_held}
use Rattle.tcl_frames.specs.Entries.{lent_entry}
use Rattle.tcl_frames.specs.Places.{end_of}
use Rattle.tcl_frames.specs.Reached.{start}
use Rattle.tcl_frames.proofs.NamesLemmas.{held_step}
use Rattle.tcl_frames.proofs.names.push_held.Goals as goal

pub returns : goal.returns
returns c =
    let at = sym c.entry.ensures ∙ ap (option_map lent_entry) c.in-Some.is in
    let e = end_of c.args.frames.now (start c.args.level c.in-Some.name.now) in
    let is = c.holds_in-is_held.ensures
    ∙ ap (λ r. is_held r (option_copied c.find-found.result.variable)) c.find-found.ensures.part
    ∙ ap (λ o. is_held e.part o) c.find-found.ensures.variable in
    on_ok_weaker c.push_if.result (λ made. held_step c.args.frames.now c.args.level c.args.variables.now c.args.index (c.in-Some.name.now, c.in-Some.field-0-1.now) c.holds_in-is_held.result c.args.names.now.items c.push_if.new.names.items at is made) c.push_if.ensures
