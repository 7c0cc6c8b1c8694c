use Rattle.std.proofs.Common.{arith, ◌≡◌, ◌-◌, length, subst, ap, length-append}
use Rattle.std.specs.Str.{IsCharBoundary}
use Rattle.std.proofs.lemmas.Str.{IsCharBoundary-at_seam}
use Rattle.tcl_text.proofs.characters.first_characters.Goals as goal

pub range-requires-clause-end_boundary : goal.range-requires-clause-end_boundary
range-requires-clause-end_boundary c =
    let cut = c.skip_characters-rest.ensures.cut in
    let sum = ap length cut.1 in
    let parts = length-append cut.0 c.skip_characters-rest.result.now in
    let end : length cut.0 ≡ length c.args.text.now - length c.skip_characters-rest.result.now = omega arith in
    subst (IsCharBoundary c.args.text.now) end (IsCharBoundary-at_seam c.args.text.now cut.0 c.skip_characters-rest.result.now cut.1 c.skip_characters-rest.utf8)
