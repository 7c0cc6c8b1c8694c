use Rattle.std.proofs.Common.{sym, ap}
use Rattle.std.specs.Cmp.Lexicographic.{bytes_decides}
use Rattle.tcl_frames.specs.Names.{Text}
use Rattle.tcl_frames.proofs.FewLemmas.{stands}
use Rattle.tcl_frames.proofs.few_names.stands_short_at.Goals as goal

pub returns-then-place-entries : goal.returns-then-place-entries
returns-then-place-entries g c is =
    let at = c.index-entries-place.is in
    stands c.args.entries.now c.args.place c.index-entries-place.result _ c.args.name.now c.if-place-entries.true at (ap (λ (e : Text × g.row.V.Denot). e.0) (sym at)) ((bytes_decides _ _).1 (c.is_same_short.ensures is))
