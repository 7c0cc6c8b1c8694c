use Rattle.tcl_prepared.specs.Brackets.{part_weight}
use Rattle.tcl_prepared.proofs.ListLemmas.{heaviest_more}
use Rattle.tcl_prepared.proofs.preparing.are_parts_light.Goals as goal

pub parts-preserved : goal.parts-preserved
parts-preserved c =
    heaviest_more part_weight c.args.parts.now c.parts.part-index c.part-item.result c.args.most c.parts-test.true c.part-item.is (c.is_part_light.ensures c.if-not-is_part_light.false) c.parts.invariant
