use Rattle.std.proofs.Common.{arith, ◌+◌, ◌<◌, ◌^◌, refl}
use Rattle.tcl_value.specs.Texts.{element_text, texts}
use Rattle.tcl_value.proofs.Weights.{kept_few}
use Rattle.tcl_value.proofs.Inside.{set_done, push_done}
use Rattle.tcl_value.proofs.items.Items.put_at.Goals as goal

pub overflow_add-most : goal.overflow_add-most
overflow_add-most c =
    let few : c.self.inside.weight < 2 ^ 90 = kept_few _ _ _ _ c.self.invariant.weighs c.self.invariant.elements c.self.inside.elements.ok.0 c.self.inside.elements.ok.1 c.self.inside.elements.small in
    omega (arith, c.ranges.room.fits)

pub returns-then-place-len-clause-put : goal.returns-then-place-len-clause-put
returns-then-place-len-clause-put c =
    set_done c.set_light.result c.is_ok.result (texts c.self.inside.elements.items) c.args.self.now c.set_light.new.self c.args.place (element_text c.args.element) c.self.inside.weight c.args.room (c.self.inside.weight + c.args.room)
    c.is_ok.ensures.value c.self.invariant.weighs c.self.view_is refl (omega arith) c.requires.ends c.set_light.ensures.set c.set_light.ensures.light

pub returns-clause-put : goal.returns-clause-put
returns-clause-put c =
    push_done c.push_light.result c.is_ok-2.result (texts c.self.inside.elements.items) c.args.self.now c.push_light.new.self c.args.place (element_text c.args.element) c.self.inside.weight c.args.room (c.self.inside.weight + c.args.room)
    c.is_ok-2.ensures.value c.self.invariant.weighs c.self.view_is refl (omega arith) c.requires.ends c.push_light.ensures.pushed c.push_light.ensures.light
