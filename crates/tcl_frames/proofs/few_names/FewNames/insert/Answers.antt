use Rattle.std.proofs.Common.{◌∙◌, ap}
use Rattle.std.specs.Str.{bytes_eq}
use Rattle.indexmap.specs.IndexMap.{insert_entry}
use Rattle.tcl_frames.specs.Names.{Text}
use Rattle.tcl_frames.proofs.EntryLemmas.{set_is_insert, is_found}
use Rattle.tcl_frames.proofs.FrameLemmas.{at_some}
use Rattle.tcl_frames.proofs.few_names.FewNames.insert.Goals as goal

pub returns-in-Some-clause-inserted : goal.returns-in-Some-clause-inserted
returns-in-Some-clause-inserted g c =
    let q = c.as_str.result.now in
    let v = c.args.value in
    let there = is_found c.get_mut.result c.in-Some.place _ c.in-Some.is c.get_mut.ensures.value in
    at_some c.get_mut.result c.in-Some.place c.in-Some.is (c.get_mut.follows.holds v)
    ∙ set_is_insert q c.args.self.now v there
    ∙ ap (λ (x : Text). insert_entry bytes_eq c.args.self.now x v) c.as_str.ensures
