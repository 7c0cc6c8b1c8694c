use Rattle.std.proofs.Common.{arith, ap, ◌≡◌, ◌∙◌, sym, subst, ◌++◌, ◌∷◌, [], false, cond, List, ℕ}
use Rattle.std.specs.Str.{bytes_eq}
use Rattle.std.specs.List.{list_any}
use Rattle.tcl_value.specs.Texts.{texts, pairs, flat, weight, IsEntries}
use Rattle.tcl_value.proofs.Entered.{key_absent, entries_add, IsEntries-add}
use Rattle.tcl_value.proofs.entries.Entries.add.Goals as goal

missing : (c : goal.After-self-2-1) → list_any (bytes_eq c.args.key) c.self.inside.keys.keys ≡ false
missing c = key_absent c.self.inside.keys.keys c.self.inside.values.items c.args.self.now c.args.key c.self.invariant.same c.self.view_is c.requires.new

keys_now : (c : goal.After-self-2-1) → c.insert.new.self.keys ≡ c.self.inside.keys.keys ++ c.args.key ∷ []
keys_now c = c.in_ok-insert.ensures.keys ∙ ap (λ b. cond b c.self.inside.keys.keys (c.self.inside.keys.keys ++ c.args.key ∷ [])) (missing c)

values_now : (c : goal.After-self-2-1) → c.push_reserved.new.self.items ≡ c.self.inside.values.items ++ c.args.value ∷ []
values_now c = c.push_reserved.ensures.items ∙ ap (λ xs. xs ++ c.args.value ∷ []) c.reserve.ensures.items

pub invariant_of-self-2 : goal.invariant_of-self-2
invariant_of-self-2 c =
    subst (λ (ks : List (List ℕ)). IsEntries c.weight_with-weight.result ks (texts c.push_reserved.new.self.items) c.push_reserved.new.self.items) (sym (keys_now c))
    (subst (λ xs. IsEntries c.weight_with-weight.result (c.self.inside.keys.keys ++ c.args.key ∷ []) (texts xs) xs) (sym (values_now c))
    (IsEntries-add c.self.inside.keys.keys c.self.inside.values.items c.args.self.now c.args.key c.args.value c.self.inside.weight c.weight_with-weight.result c.self.invariant c.self.view_is c.requires.key (missing c) c.requires.element c.weight_with-weight.ensures))

pub returns-clause-added : goal.returns-clause-added
returns-clause-added c =
    ap (λ ks. pairs ks (texts c.push_reserved.new.self.items)) (keys_now c)
    ∙ ap (λ xs. pairs (c.self.inside.keys.keys ++ c.args.key ∷ []) (texts xs)) (values_now c)
    ∙ entries_add c.self.inside.keys.keys c.self.inside.values.items c.args.self.now c.args.key c.args.value c.self.invariant.same c.self.view_is

pub returns-clause-light : goal.returns-clause-light
returns-clause-light c =
    let now = ap (λ z. weight (flat z)) (returns-clause-added c) in
    omega (arith, c.weight_with-weight.ensures)
