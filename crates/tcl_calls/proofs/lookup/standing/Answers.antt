use Rattle.std.proofs.Common.{◌≡◌, false, sym, ◌∙◌, ap}
use Rattle.std.specs.Option.{option_and_then}
use Rattle.tcl_core.specs.Trees.{Node}
use Rattle.tcl_interpreter.specs.Own.{command_in}
use Rattle.tcl_tree.specs.Own.{Own}
use Rattle.tcl_frames.specs.Names.{has_colons}
use Rattle.tcl_calls.proofs.Changing.{has_same}
use Rattle.tcl_calls.proofs.KeptNames.{found_kept}
use Rattle.tcl_calls.proofs.lookup.standing.Goals as goal

pub returns : goal.returns
returns c = λ p n names there.
    let word = c.args.word.now in
    let plain : has_colons word ≡ false = has_same word ∙ c.in_ok-command.ensures.plain in
    let command = c.in_ok-command.ensures.command p names ∙ ap (option_and_then (λ (m : Node Own). command_in m.own word)) there in
    found_kept n word c.in_ok-command.command.now plain (sym command)
