use Rattle.std.proofs.Common.{arith, ap, ◌≡◌, ◌∙◌, length, ◌<◌, ◌≤◌, ◌^◌}
use Rattle.tcl_value.specs.Writing.{write_element}
use Rattle.tcl_value.specs.Texts.{element_text, flat, weight}
use Rattle.tcl_value.proofs.Written.{size_at_most}
use Rattle.tcl_value.proofs.Entered.{entry_many, entries_few, add_entry_weight}
use Rattle.tcl_value.proofs.entries.Entries.weight_with.Goals as goal

few : (c : goal.After-written_len-2) → c.self.inside.weight < 2 ^ 91
few c = entries_few _ _ _ c.self.inside.keys.keys c.self.inside.values.items c.self.invariant c.self.inside.values.ok.0 c.self.inside.values.ok.1 c.self.inside.values.small

key_len : (c : goal.After-written_len-2) → c.written_len.result ≡ length (write_element c.is_empty-first.result c.args.key.now)
key_len c = c.written_len.ensures ∙ ap (λ k. length (write_element c.is_empty-first.result k)) c.as_str.ensures

key_few : (c : goal.After-written_len-2) → c.written_len.result ≤ 33554434
key_few c = omega (arith, key_len c, size_at_most c.is_empty-first.result c.args.key.now, c.requires.key)

pub overflow_add-result : goal.overflow_add-result
overflow_add-result c = omega (arith, few c, key_few c, c.written_len-2.ensures.few)

pub overflow_add-result-2 : goal.overflow_add-result-2
overflow_add-result-2 c = omega (arith, few c, key_few c, c.written_len-2.ensures.few)

pub returns : goal.returns
returns c = add_entry_weight c.args.self.now c.args.key.now (element_text c.args.value.now) c.is_empty-first.result _ c.self.inside.weight c.written_len.result c.written_len-2.result (c.self.invariant.weighs ∙ ap (λ z. weight (flat z)) c.self.view_is) c.is_empty-first.ensures (c.self.inside.values.ok.0 ∙ entry_many c.self.inside.keys.keys c.self.inside.values.items c.args.self.now c.self.invariant.same c.self.view_is) (key_len c) c.written_len-2.ensures.len
