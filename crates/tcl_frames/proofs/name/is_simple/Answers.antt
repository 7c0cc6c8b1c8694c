use Rattle.std.proofs.Common.{◌≢◌, ◌∙◌, sym, ap, subst, arith, ◌<◌, length, get_or, inl, inr}
use Rattle.tcl_frames.specs.Names.{Text}
use Rattle.tcl_frames.proofs.NameLemmas.{simple_stops, simple_goes, simple_over}
use Rattle.tcl_frames.proofs.name.is_simple.Goals as goal

pub returns-then-b-eq58 : goal.returns-then-b-eq58
returns-then-b-eq58 c =
    let same = c.as_bytes-b-items.ensures.value in
    let here : c.loop-b.b-index < length c.args.name.now = subst (λ (s : Text). c.loop-b.b-index < length s) same c.loop-b-test.true in
    sym (c.loop-b.invariant ∙ simple_stops c.args.name.now c.loop-b.b-index here (inl (ap (λ s. get_or s c.loop-b.b-index 0) (sym same) ∙ c.if-b-eq58.true)))

pub returns-then-b-eq41 : goal.returns-then-b-eq41
returns-then-b-eq41 c =
    let same = c.as_bytes-b-items.ensures.value in
    let here : c.loop-b.b-index < length c.args.name.now = subst (λ (s : Text). c.loop-b.b-index < length s) same c.loop-b-test.true in
    sym (c.loop-b.invariant ∙ simple_stops c.args.name.now c.loop-b.b-index here (inr (ap (λ s. get_or s c.loop-b.b-index 0) (sym same) ∙ c.if-b-eq41.true)))

pub loop-b-preserved : goal.loop-b-preserved
loop-b-preserved c =
    let same = c.as_bytes-b-items.ensures.value in
    let here : c.loop-b.b-index < length c.args.name.now = subst (λ (s : Text). c.loop-b.b-index < length s) same c.loop-b-test.true in
    c.loop-b.invariant
    ∙ simple_goes c.args.name.now c.loop-b.b-index here
    (subst (λ (s : Text). get_or s c.loop-b.b-index 0 ≢ 58) same c.if-b-eq58.false)
    (subst (λ (s : Text). get_or s c.loop-b.b-index 0 ≢ 41) same c.if-b-eq41.false)

pub returns : goal.returns
returns c = sym (c.loop-b.invariant ∙ simple_over c.args.name.now c.loop-b.b-index (omega (arith, ap length c.as_bytes-b-items.ensures.value)))
