use Rattle.std.proofs.Common.{rules, ◌≡◌, ◌∙◌, ◌+◌, ◌-◌, length, ap, FitsSigned, w64, of_z, to_z, Some, take, drop}
use Rattle.std.proofs.lemmas.Int.{to_z-of_z}
use Rattle.tcl_text.specs.Indexes.{base_of, offset_of, last_operator}
use Rattle.tcl_text.proofs.Operators.{sum_is, rest_of}
use Rattle.tcl_text.proofs.index.read_sum.Goals as goal

pub returns : goal.returns
returns c =
    let base_fits : FitsSigned w64 c.in_ok-base.base = search rules in
    let offset_fits : FitsSigned w64 c.in_ok-offset.offset = search rules in
    let end = to_z-of_z w64 c.args.end c.ranges.end in
    let at : Some c.in_ok-at.at ≡ last_operator c.args.text.now = c.in_ok-at.ensures.place in
    let front : Some c.in_ok-base.base ≡ base_of c.args.style (to_z w64 (of_z w64 c.args.end)) (take c.in_ok-at.at c.args.text.now) = c.in_ok-base.ensures in
    let back : Some c.in_ok-offset.offset ≡ offset_of c.args.style (take (length c.args.text.now - (c.in_ok-at.at + 1)) (drop (c.in_ok-at.at + 1) c.args.text.now)) = c.in_ok-offset.ensures in
    let rest = rest_of c.args.text.now (c.in_ok-at.at + 1) in
    sum_is c.args.style c.args.end (to_z w64 (of_z w64 c.in_ok-base.base)) (to_z w64 (of_z w64 c.in_ok-offset.offset)) c.args.text.now c.in_ok-at.at c.place_of_sum.result at
    (ap Some (to_z-of_z w64 c.in_ok-base.base base_fits) ∙ front ∙ ap (λ e. base_of c.args.style e (take c.in_ok-at.at c.args.text.now)) end)
    (ap Some (to_z-of_z w64 c.in_ok-offset.offset offset_fits) ∙ back ∙ ap (offset_of c.args.style) rest)
    c.place_of_sum.ensures
