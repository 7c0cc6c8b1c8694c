use Rattle.std.proofs.Common.{◌∙◌}
use Rattle.tcl_frames.proofs.EntryLemmas.{set_is_insert, is_found}
use Rattle.tcl_frames.proofs.FrameLemmas.{at_some}
use Rattle.tcl_frames.proofs.name_map.NameMap.insert.Goals as goal

pub returns-in-Some-clause-inserted : goal.returns-in-Some-clause-inserted
returns-in-Some-clause-inserted g c =
    let q = c.args.name.now in
    let v = c.args.value in
    let there = is_found c.get_mut.result c.in-Some.place _ c.in-Some.is c.get_mut.ensures.value in
    at_some c.get_mut.result c.in-Some.place c.in-Some.is (c.get_mut.follows.holds v) ∙ set_is_insert q c.args.self.now v there
