use Rattle.tcl_frames.proofs.FewLemmas.{distinct_clones}
use Rattle.tcl_frames.proofs.few_names.FewNamesClone.clone.Goals as goal

pub invariant_of-result : goal.invariant_of-result
invariant_of-result g c = distinct_clones g.V.Clone.is_clone c.self.inside.entries.items c.in_ok-entries.entries.items c.in_ok-entries.ensures.cases.0 c.self.invariant
