use Rattle.tcl_frames.proofs.FewLemmas.{distinct_none}
use Rattle.tcl_frames.proofs.few_names.FewNames.clear.Goals as goal

pub invariant_of-self : goal.invariant_of-self
invariant_of-self g c = distinct_none c.clear.new.self.items c.clear.ensures.items
