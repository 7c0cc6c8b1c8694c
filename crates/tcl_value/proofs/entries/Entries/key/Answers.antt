use Rattle.std.proofs.Common.{arith, ap, sym, ◌≡◌, ◌∙◌, subst, get_or}
use Rattle.std.specs.Option.{option_copied}
use Rattle.std.proofs.lemmas.Option.{get_or_from_slice_get}
use Rattle.tcl_value.specs.Limits.{IsWithin}
use Rattle.tcl_value.proofs.Writes.{AllWithin-get}
use Rattle.tcl_value.proofs.Entered.{entry_many, key_at}
use Rattle.tcl_value.proofs.entries.Entries.key.Goals as goal

pub unwrap-requires : goal.unwrap-requires
unwrap-requires c = c.get_index.ensures.found.1 (omega (arith, entry_many c.self.inside.keys.keys c.self.inside.values.items c.args.self.now c.self.invariant.same c.self.view_is, c.self.invariant.same, c.requires))

here : (c : goal.After-unwrap) → c.unwrap.result.now ≡ get_or c.self.inside.keys.keys c.args.index c.unwrap.result.now
here c = sym (get_or_from_slice_get c.self.inside.keys.keys c.args.index c.unwrap.result.now c.unwrap.result.now (sym c.get_index.ensures.key ∙ ap option_copied c.unwrap.ensures))

pub returns-clause-key : goal.returns-clause-key
returns-clause-key c = key_at c.self.inside.keys.keys c.self.inside.values.items c.args.self.now c.args.index c.unwrap.result.now c.self.invariant.same c.self.view_is (here c)

pub returns-clause-within : goal.returns-clause-within
returns-clause-within c = subst IsWithin (sym (here c)) (AllWithin-get c.self.inside.keys.keys c.args.index c.unwrap.result.now c.self.invariant.keys (omega (arith, entry_many c.self.inside.keys.keys c.self.inside.values.items c.args.self.now c.self.invariant.same c.self.view_is, c.self.invariant.same, c.requires)))
