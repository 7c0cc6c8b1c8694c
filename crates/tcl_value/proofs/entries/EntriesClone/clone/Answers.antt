use Rattle.std.proofs.Common.{◌≡◌, ◌∙◌, ap, sym, length, arith, List, ℕ, subst}
use Rattle.std.proofs.lemmas.List.Elements.{same_from_all_zip}
use Rattle.tcl_value.specs.Texts.{AllWithin, AreDistinct, weight, flat, pairs, texts}
use Rattle.tcl_value.proofs.Weights.{same_all, length-texts}
use Rattle.tcl_value.proofs.entries.EntriesClone.clone.Goals as goal

pub invariant_of-result : goal.invariant_of-result
invariant_of-result c =
    let same = same_all _ _ c.in_ok-values.ensures.cases.0 in
    let keys = same_from_all_zip (λ (a b : List ℕ). b ≡ a) c.self.inside.keys.keys c.in_ok-keys.keys.keys c.in_ok-keys.ensures.cases (λ a b e. e) in
    let many = ap length same.0 in
    let many_keys = ap length keys in
    record {
      keys = subst AllWithin (sym keys) c.self.invariant.keys;
      distinct = subst AreDistinct (sym keys) c.self.invariant.distinct;
      elements = same.1 c.self.invariant.elements;
      same = omega (arith, c.self.invariant.same, length-texts c.in_ok-values.values.items, length-texts c.self.inside.values.items);
      weighs = c.self.invariant.weighs ∙ ap (λ ks. weight (flat (pairs ks (texts c.self.inside.values.items)))) (sym keys) ∙ ap (λ ts. weight (flat (pairs c.in_ok-keys.keys.keys ts))) (sym same.0);
    }

pub returns : goal.returns
returns c =
    let same = same_all _ _ c.in_ok-values.ensures.cases.0 in
    let keys = same_from_all_zip (λ (a b : List ℕ). b ≡ a) c.self.inside.keys.keys c.in_ok-keys.keys.keys c.in_ok-keys.ensures.cases (λ a b e. e) in
    record { cases = ap (λ ks. pairs ks (texts c.in_ok-values.values.items)) keys ∙ ap (λ ts. pairs c.self.inside.keys.keys ts) same.0 ∙ c.self.view_is }
