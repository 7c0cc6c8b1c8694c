use Rattle.tcl_dicts.proofs.Steps.{pairs_step}
use Rattle.tcl_dicts.proofs.building.put_words.Goals as goal

pub pairs-preserved : goal.pairs-preserved
pairs-preserved c = pairs_step c.pairs.made c.in_ok-made.made c.pairs.left.now c.key-item.result c.value-item.result _ c.in-len2-up.len_at_least c.key-item.is c.value-item.is c.in_ok-made.ensures c.pairs.invariant
