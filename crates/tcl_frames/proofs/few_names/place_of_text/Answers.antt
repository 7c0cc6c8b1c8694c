use Rattle.std.proofs.Common.{◌∙◌, sym, ap}
use Rattle.tcl_frames.specs.Names.{Text}
use Rattle.tcl_frames.proofs.FewLemmas.{stands, none_more}
use Rattle.tcl_frames.proofs.few_names.place_of_text.Goals as goal

pub returns-then-eq : goal.returns-then-eq
returns-then-eq g c =
    let at = c.index-entries-index.is in
    stands c.args.entries.now c.entries.index c.index-entries-index.result _ c.args.name.now c.entries-test.true at (ap (λ (e : Text × g.row.V.Denot). e.0) (sym at)) (sym c.eq.ensures ∙ c.if-eq.true)

pub entries-preserved : goal.entries-preserved
entries-preserved g c =
    let at = c.index-entries-index.is in
    none_more c.args.entries.now c.entries.index c.index-entries-index.result _ c.args.name.now c.entries-test.true at (ap (λ (e : Text × g.row.V.Denot). e.0) (sym at)) (sym c.eq.ensures ∙ c.if-eq.false) c.entries.invariant
