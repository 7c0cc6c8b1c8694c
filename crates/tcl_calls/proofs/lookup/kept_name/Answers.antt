use Rattle.std.proofs.Common.{◌≡◌, false, Some, sym, ◌∙◌, ap}
use Rattle.tcl_core.specs.Paths.{Text}
use Rattle.tcl_frames.specs.Names.{has_colons}
use Rattle.tcl_calls.proofs.KeptNames.{kept_whole}
use Rattle.tcl_calls.proofs.lookup.kept_name.Goals as goal

pub returns-then-not-with_colons : goal.returns-then-not-with_colons
returns-then-not-with_colons c =
    let word : Text = c.args.word.now in
    let none : has_colons c.as_str.result.now ≡ false = sym c.if-not-with_colons.ensures in
    let is : c.in_ok-name.name ≡ word = c.in_ok-name.ensures in
    let same : c.as_str.result.now ≡ word = c.as_str.ensures ∙ is in
    ap Some is ∙ sym (kept_whole word (ap has_colons (sym same) ∙ none))
