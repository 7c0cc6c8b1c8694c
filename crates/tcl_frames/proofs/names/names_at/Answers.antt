use Rattle.std.proofs.Common.{◌∙◌, sym, ap}
use Rattle.std.proofs.lemmas.Option.{slice_get_past}
use Rattle.std.proofs.lemmas.Result.{IfOk-weaker}
use Rattle.tcl_frames.specs.Chain.{names_held}
use Rattle.tcl_frames.proofs.NamesLemmas.{variables_there, held_nowhere}
use Rattle.tcl_frames.proofs.ReachLemmas.{get_there}
use Rattle.tcl_frames.proofs.names.names_at.Goals as goal

pub returns-in-Some : goal.returns-in-Some
returns-in-Some c =
    let h = c.in-Some.ensures.lookup in
    let there = variables_there c.args.frames.now c.args.level c.in-Some.frame.now (get_there c.args.frames.now c.args.level c.in-Some.frame.now h.0 h.1) in
    IfOk-weaker c.held_names.result _ _ (λ v e. e ∙ ap (names_held c.args.frames.now c.args.level) (c.variables.ensures ∙ sym there)) c.held_names.ensures

pub returns-in-None : goal.returns-in-None
returns-in-None c =
    let h = c.in-None.ensures.lookup in
    c.new.ensures.items ∙ sym (held_nowhere c.args.frames.now c.args.level (slice_get_past c.args.frames.now c.args.level h.3))
