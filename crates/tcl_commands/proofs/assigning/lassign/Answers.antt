use Rattle.std.proofs.Common.{◌≡◌, length, drop, sym, ap, ◌∙◌}
use Rattle.std.specs.Prelude.{take, ◌-◌}
use Rattle.std.proofs.lemmas.Result.{err_from_is_err_and}
use Rattle.tcl_lists.specs.Lists.{lassign_rest}
use Rattle.tcl_text.specs.Lists.{list_of}
use Rattle.tcl_commands.proofs.Elements.{lassign_acts, lassign_fails}
use Rattle.tcl_commands.proofs.Linking.{one_front}
use Rattle.tcl_commands.proofs.assigning.lassign.Goals as goal

pub returns-in_err-set_names-in-len1-up-clause-acts : goal.returns-in_err-set_names-in-len1-up-clause-acts
returns-in_err-set_names-in-len1-up-clause-acts c =
    let names = take (length c.args.args.now - 1) (drop 1 c.args.args.now) in
    let p = err_from_is_err_and c.from_residual-in_err-set_names-in-len1-up.result c.from_residual-in_err-set_names-in-len1-up.ensures.1 in
    lassign_fails c.args.tree.now c.set_names.new.tree c.args.place c.args.args.now c.list-item.result names c.in_ok-elements-in-len1-up.elements
    (one_front c.args.args.now c.list-item.result c.in-len1-up.len_at_least c.list-item.is)
    (ap list_of (sym c.in_ok-own-in-len1-up.ensures.cases) ∙ c.in_ok-elements-in-len1-up.ensures.read)
    c.in_err-set_names-in-len1-up.field-0.0 p.0 c.from_residual-in_err-set_names-in-len1-up.result p.1 p.2 c.in_err-set_names-in-len1-up.ensures.refused

pub returns-in_ok-set_names-in-len1-up-clause-acts : goal.returns-in_ok-set_names-in-len1-up-clause-acts
returns-in_ok-set_names-in-len1-up-clause-acts c =
    let names = take (length c.args.args.now - 1) (drop 1 c.args.args.now) in
    lassign_acts c.args.tree.now c.set_names.new.tree c.args.place c.args.args.now c.list-item.result names c.in_ok-elements-in-len1-up.elements
    (one_front c.args.args.now c.list-item.result c.in-len1-up.len_at_least c.list-item.is)
    (ap list_of (sym c.in_ok-own-in-len1-up.ensures.cases) ∙ c.in_ok-elements-in-len1-up.ensures.read)
    (drop c.in_ok-set_names-in-len1-up.field-0 c.in_ok-elements-in-len1-up.elements) c.answered.result c.in_ok-set_names-in-len1-up.ensures.level c.in_ok-set_names-in-len1-up.ensures.set
    (c.answered.ensures (lassign_rest (length names) c.in_ok-elements-in-len1-up.elements) c.lassign_rest.ensures)
