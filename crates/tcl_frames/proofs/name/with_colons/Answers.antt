use Rattle.std.proofs.Common.{◌≡◌, ◌∙◌, sym, ap, subst, arith, eqb, eq-eqb, ◌+◌, ◌<◌, drop, length, get_or, true}
use Rattle.tcl_frames.specs.Names.{Text, colons_after}
use Rattle.tcl_frames.proofs.NameLemmas.{colons_here, colons_later, colons_over, not_both}
use Rattle.tcl_frames.proofs.name.with_colons.Goals as goal

pub returns-then-is_colon : goal.returns-then-is_colon
returns-then-is_colon c =
    let same = c.as_bytes-b-items.ensures.value in
    let here : c.loop-b.b-index < length c.args.name.now = subst (λ (s : Text). c.loop-b.b-index < length s) same c.loop-b-test.true in
    let colon : eqb (get_or c.args.name.now c.loop-b.b-index 0) 58 ≡ true = eq-eqb _ _ (ap (λ s. get_or s c.loop-b.b-index 0) (sym same) ∙ c.if-is_colon.true) in
    sym (c.loop-b.invariant ∙ colons_here c.loop-b.after_colon c.args.name.now c.loop-b.b-index here c.if-after_colon.true colon)

pub loop-b-preserved : goal.loop-b-preserved
loop-b-preserved c =
    let same = c.as_bytes-b-items.ensures.value in
    let here : c.loop-b.b-index < length c.args.name.now = subst (λ (s : Text). c.loop-b.b-index < length s) same c.loop-b-test.true in
    let later = colons_later c.loop-b.after_colon c.args.name.now c.loop-b.b-index here (not_both c.loop-b.after_colon (get_or c.as_bytes-b-items.result.now c.loop-b.b-index 0) _ (ap (λ (s : Text). get_or s c.loop-b.b-index 0) (sym same)) c.else-after_colon.either) in
    c.loop-b.invariant ∙ later ∙ ap (λ (s : Text). colons_after (eqb (get_or s c.loop-b.b-index 0) 58) (drop (c.loop-b.b-index + 1) c.args.name.now)) (sym same)

pub returns : goal.returns
returns c =
    sym (c.loop-b.invariant ∙ colons_over c.loop-b.after_colon c.args.name.now c.loop-b.b-index (omega (arith, ap length c.as_bytes-b-items.ensures.value)))
