use Rattle.tcl_frames.proofs.FewLemmas.{distinct_none}
use Rattle.tcl_frames.proofs.few_names.FewNames.new.Goals as goal

pub invariant_of-result : goal.invariant_of-result
invariant_of-result g c = distinct_none c.new.result.items c.new.ensures.items
