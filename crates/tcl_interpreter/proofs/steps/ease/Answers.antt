use Rattle.std.proofs.Common.{◌≡◌, ℕ, zero, suc, pred, ◌-◌, ◌<◌, Some, refl, sym, ◌∙◌, ap, subst, arith}
use Rattle.std.specs.Prelude.{is_some}
use Rattle.std.proofs.lemmas.Option.{same_Some}
use Rattle.slab.specs.Slab.{Slab, get, with_value}
use Rattle.slab.proofs.SlabLemmas.{Updates-with_value}
use Rattle.tcl_interpreter.specs.Nodes.{Eased, IsEased}
use Rattle.tcl_interpreter.specs.declared.node.Node.{Node}
use Rattle.tcl_interpreter.proofs.steps.ease.Goals as goal

one_less : (d : ℕ) → d - 1 ≡ pred d
one_less zero = omega arith
one_less (suc d) = omega arith

written : (s : Slab Node) (key : ℕ) (old new : Node) → get s key ≡ Some old → (node : Node) → get s key ≡ Some node → IsEased old new → 1 < old.state.depth → Eased s (with_value s key new) key node
written s key old new here node is less deep =
    let same : old ≡ node = same_Some _ _ (sym here ∙ is) in
    let levels = ap (λ (x : Node). x.state.depth) same in
    let wrote = Updates-with_value s key new (ap is_some here) in
    record {
      last = λ l. absurd (omega arith);
      less = λ l. (new, wrote.changed, subst (λ (x : Node). IsEased x new) same less);
      others = wrote.others;
    }

pub returns-then-node-le1 : goal.returns-then-node-le1
returns-then-node-le1 c = record {
  eased = λ node is.
      let same : c.in-Some.node.now ≡ node = same_Some _ _ (c.in-Some.ensures ∙ is) in
      let levels = ap (λ (x : Node). x.state.depth) same in
      let low = c.if-node-le1.true in
      record {
        last = λ l. c.remove.ensures.updates.changed;
        less = λ l. absurd (omega arith);
        others = c.remove.ensures.updates.others;
      };
}

pub returns-in-Some-get_mut : goal.returns-in-Some-get_mut
returns-in-Some-get_mut c = record {
  eased = λ node is.
      let here = sym c.in-Some-get_mut.ensures.value in
      let same : c.in-Some.node.now ≡ c.in-Some-get_mut.node.now = same_Some _ _ (c.in-Some.ensures ∙ here) in
      let levels = ap (λ (x : Node). x.state.depth) same in
      let high = c.if-node-le1.false in
      written _ _ c.in-Some-get_mut.node.now _ here node is (record { parent = refl; name = refl; level = refl; children = refl; gone = refl; depth = one_less _ }) (omega arith);
}
