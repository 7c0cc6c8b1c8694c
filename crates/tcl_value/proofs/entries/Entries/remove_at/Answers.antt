use Rattle.std.proofs.Common.{arith, ap, ◌∙◌, sym, subst, List, ℕ, ◌<◌, length}
use Rattle.std.specs.Prelude.{remove}
use Rattle.tcl_value.specs.Texts.{texts, pairs, flat, weight, IsEntries}
use Rattle.tcl_value.proofs.Entered.{entry_many}
use Rattle.tcl_value.proofs.Removed.{entries_dropped, IsEntries-dropped}
use Rattle.tcl_value.proofs.entries.Entries.remove_at.Goals as goal

pub remove-requires : goal.remove-requires
remove-requires c = omega (arith, entry_many c.self.inside.keys.keys c.self.inside.values.items c.args.self.now c.self.invariant.same c.self.view_is, c.self.inside.values.ok.0, c.requires)

pub invariant_of-self : goal.invariant_of-self
invariant_of-self c =
    let here : c.args.index < length c.self.inside.values.items = omega (arith, entry_many c.self.inside.keys.keys c.self.inside.values.items c.args.self.now c.self.invariant.same c.self.view_is, c.requires) in
    subst (λ (ks : List (List ℕ)). IsEntries c.weight_without-weight.result ks (texts c.remove.new.self.items) c.remove.new.self.items) (sym c.shift_remove_index.ensures.keys)
    (subst (λ xs. IsEntries c.weight_without-weight.result (remove c.self.inside.keys.keys c.args.index) (texts xs) xs) (sym c.remove.ensures.items)
    (IsEntries-dropped c.self.inside.keys.keys c.self.inside.values.items c.args.self.now c.args.index c.self.inside.weight c.weight_without-weight.result c.self.invariant c.self.view_is here c.weight_without-weight.ensures))

pub returns-clause-removed : goal.returns-clause-removed
returns-clause-removed c =
    ap (λ ks. pairs ks (texts c.remove.new.self.items)) c.shift_remove_index.ensures.keys
    ∙ ap (λ xs. pairs (remove c.self.inside.keys.keys c.args.index) (texts xs)) c.remove.ensures.items
    ∙ entries_dropped c.self.inside.keys.keys c.self.inside.values.items c.args.self.now c.args.index c.self.invariant.same c.self.view_is

pub returns-clause-light : goal.returns-clause-light
returns-clause-light c =
    let now = ap (λ z. weight (flat z)) (returns-clause-removed c) in
    omega (arith, c.weight_without-weight.ensures)
