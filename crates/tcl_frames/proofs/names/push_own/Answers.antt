use Rattle.std.proofs.Common.{◌∙◌, sym, ap}
use Rattle.std.proofs.lemmas.Result.{on_ok_weaker}
use Rattle.std.specs.Option.{option_map}
use Rattle.tcl_frames.specs.Entries.{lent_entry}
use Rattle.tcl_frames.proofs.NamesLemmas.{own_step}
use Rattle.tcl_frames.proofs.names.push_own.Goals as goal

pub returns : goal.returns
returns c =
    let at = sym c.entry.ensures ∙ ap (option_map lent_entry) c.in-Some.is in
    on_ok_weaker c.push_if.result (λ made. own_step c.args.variables.now c.args.index (c.in-Some.name.now, c.in-Some.variable.now) c.is_own_variable.result c.args.names.now.items c.push_if.new.names.items at c.is_own_variable.ensures made) c.push_if.ensures
