use Rattle.std.proofs.Common.{arith, ap, sym, subst, length, ◌<◌, ◌^◌}
use Rattle.std.proofs.lemmas.Bool.Decides.{nat_tests}
use Rattle.tcl_value.specs.Texts.{IsElement}
use Rattle.tcl_value.proofs.Weights.{length-texts, AreElements-get}
use Rattle.tcl_value.proofs.Parts.{kept_fewer, part_at_most}
use Rattle.tcl_value.proofs.items.Items.has_small_parts.Goals as goal

pub written_len-requires : goal.written_len-requires
written_len-requires c =
    let same = ap length c.self.view_is in
    let here : c.args.from < length c.self.inside.elements.items = omega (arith, length-texts c.self.inside.elements.items, c.requires) in
    subst IsElement (sym c.index-leading.ensures) (AreElements-get c.self.inside.elements.items c.args.from c.index-leading.result.now c.self.invariant.elements here)

few : (c : goal.After-written_len) → c.self.inside.weight < 2 ^ 89
few c = kept_fewer _ _ _ _ c.self.invariant.weighs c.self.invariant.elements c.self.inside.elements.ok.0 c.self.inside.elements.ok.1 c.self.inside.elements.small

pub overflow_add-result : goal.overflow_add-result
overflow_add-result c = omega (arith, few c, c.written_len.ensures.few)

pub returns : goal.returns
returns c = λ small to less within.
    let most = part_at_most c.self.inside.elements.items c.args.self.now c.args.from to c.index-leading.result.now c.self.inside.weight c.written_len.result c.self.invariant.weighs c.self.view_is less within c.index-leading.ensures c.written_len.ensures.len in
    grind (arith, nat_tests, small, most)
