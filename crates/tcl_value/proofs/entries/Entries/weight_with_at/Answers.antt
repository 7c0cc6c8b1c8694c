use Rattle.std.proofs.Common.{arith, ◌≡◌, sym, subst, length, ◌+◌, ◌<◌, ◌^◌}
use Rattle.tcl_value.specs.Texts.{element_text, IsElement, flat, weight}
use Rattle.tcl_value.specs.Dicts.{value_set}
use Rattle.tcl_value.proofs.Weights.{AreElements-get}
use Rattle.tcl_value.proofs.Entered.{entry_many, entries_few, set_entry_weight}
use Rattle.tcl_value.proofs.entries.Entries.weight_with_at.Goals as goal

pub index-requires : goal.index-requires
index-requires c = omega (arith, entry_many c.self.inside.keys.keys c.self.inside.values.items c.args.self.now c.self.invariant.same c.self.view_is, c.self.inside.values.ok.0, c.requires.in_bounds)

pub written_len-less-requires : goal.written_len-less-requires
written_len-less-requires c =
    let here : c.args.index < length c.self.inside.values.items = omega (arith, entry_many c.self.inside.keys.keys c.self.inside.values.items c.args.self.now c.self.invariant.same c.self.view_is, c.requires.in_bounds) in
    subst IsElement (sym c.index.ensures) (AreElements-get c.self.inside.values.items c.args.index c.index.result.now c.self.invariant.elements here)

few : (c : goal.After-written_len-more) → c.self.inside.weight < 2 ^ 91
few c = entries_few _ _ _ c.self.inside.keys.keys c.self.inside.values.items c.self.invariant c.self.inside.values.ok.0 c.self.inside.values.ok.1 c.self.inside.values.small

pub overflow_add-result : goal.overflow_add-result
overflow_add-result c = omega (arith, few c, c.written_len-more.ensures.few)

weighs : (c : goal.After-written_len-more) → c.self.inside.weight + c.written_len-more.result ≡ weight (flat (value_set c.args.self.now c.args.index (element_text c.args.value.now))) + c.written_len-less.result
weighs c = set_entry_weight c.self.inside.keys.keys c.self.inside.values.items c.args.self.now c.args.index c.index.result.now (element_text c.args.value.now) c.self.inside.weight c.written_len-less.result c.written_len-more.result c.self.invariant.same c.self.view_is c.self.invariant.weighs c.requires.in_bounds c.index.ensures c.written_len-less.ensures.len c.written_len-more.ensures.len

pub overflow_sub-result : goal.overflow_sub-result
overflow_sub-result c = omega (arith, weighs c)

pub returns : goal.returns
returns c = omega (arith, weighs c)
