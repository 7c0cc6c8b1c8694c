use Rattle.std.proofs.Common.{arith, ◌+◌, ◌<◌, ◌^◌, refl}
use Rattle.tcl_value.specs.Texts.{texts}
use Rattle.tcl_value.proofs.Weights.{kept_few}
use Rattle.tcl_value.proofs.InsideDicts.{extended_done}
use Rattle.tcl_value.proofs.items.Items.extend_within.Goals as goal

pub overflow_add-most : goal.overflow_add-most
overflow_add-most c =
    let few : c.self.inside.weight < 2 ^ 90 = kept_few _ _ _ _ c.self.invariant.weighs c.self.invariant.elements c.self.inside.elements.ok.0 c.self.inside.elements.ok.1 c.self.inside.elements.small in
    omega (arith, c.ranges.room.fits)

pub returns-clause-extended : goal.returns-clause-extended
returns-clause-extended c =
    extended_done c.extend_light.result c.is_ok.result c.self.inside.weight c.args.room (c.self.inside.weight + c.args.room) (texts c.self.inside.elements.items) c.args.self.now (texts c.args.elements.items) c.extend_light.new.self
    c.is_ok.ensures.value c.self.invariant.weighs c.self.view_is refl c.extend_light.ensures.extended c.extend_light.ensures.light
