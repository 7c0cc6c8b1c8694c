use Rattle.std.proofs.Common.{◌≡◌, ◌∙◌, ap}
use Rattle.std.specs.Str.{bytes_eq}
use Rattle.std.specs.Map.{keys_of, remove_entry}
use Rattle.indexmap.specs.IndexMap.{keys}
use Rattle.indexmap.specs.IndexSet.{remove_key}
use Rattle.indexmap.proofs.CallerLemmas.{keys-shift_remove_entry}
use Rattle.tcl_interpreter.specs.Names.{have_plain_names}
use Rattle.tcl_interpreter.specs.Nodes.{view_of}
use Rattle.tcl_interpreter.proofs.PlainLemmas.{plain_removed}
use Rattle.tcl_interpreter.proofs.steps.remove_child.Goals as goal

pub returns-clause-view : goal.returns-clause-view
returns-clause-view c =
    let old = c.args.up.now in
    let names : keys c.shift_remove.new.self ≡ remove_key (bytes_eq c.args.name.now) (keys old.children) = ap keys_of c.shift_remove.ensures.entries ∙ keys-shift_remove_entry (bytes_eq c.args.name.now) old.children.entries in
    let commands : c.shift_remove-2.new.self.entries ≡ remove_entry (bytes_eq c.args.name.now) old.state.commands.entries = c.shift_remove-2.ensures.entries in
    (λ i. record (view_of old) { own = record (view_of old).own { commands = commands i; children = names i } })

pub invariant_of-up-clause-plain : goal.invariant_of-up-clause-plain
invariant_of-up-clause-plain c = λ known. ap have_plain_names c.shift_remove-2.ensures.entries ∙ plain_removed (bytes_eq c.args.name.now) _ (c.args.up.now.state.plain known)
