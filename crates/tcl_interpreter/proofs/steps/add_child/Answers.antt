use Rattle.std.proofs.Common.{◌≡◌, true, ◌∙◌, sym, ap, ◌++◌, ◌∷◌, []}
use Rattle.std.specs.Prelude.{◌&&◌}
use Rattle.std.specs.Str.{bytes_eq}
use Rattle.indexmap.specs.IndexMap.{keys}
use Rattle.indexmap.proofs.CallerLemmas.{insert_entry-new}
use Rattle.tcl_interpreter.specs.Names.{is_command_name}
use Rattle.tcl_interpreter.specs.Nodes.{view_of}
use Rattle.tcl_interpreter.specs.declared.command.Command.TheVariants as command
use Rattle.tcl_interpreter.proofs.Outcomes.{on_ok}
use Rattle.tcl_interpreter.proofs.PlainLemmas.{first_of, second_of, given_plain}
use Rattle.tcl_interpreter.proofs.TableLemmas.{keys_pushed}
use Rattle.tcl_interpreter.proofs.steps.add_child.Goals as goal

pub returns-clause-view : goal.returns-clause-view
returns-clause-view c =
    let old = c.args.up.now in
    let ok = c.insert.ensures.succeeds c.requires.spare in
    let ok₂ = c.insert-2.ensures.succeeds c.requires.spare_commands in
    let names : keys c.insert.new.self ≡ keys old.children ++ c.args.label ∷ [] = keys_pushed old.children c.insert.new.self _ _ (on_ok c.insert.result c.insert.ensures.entries ok) c.requires.absent in
    let commands : c.insert-2.new.self.entries ≡ old.state.commands.entries ++ (c.args.label, command.Child) ∷ [] =
    on_ok c.insert-2.result c.insert-2.ensures.entries ok₂
    ∙ ap (λ t. Rattle.indexmap.specs.IndexMap.insert_entry bytes_eq old.state.commands.entries t command.Child) c.requires.same
    ∙ insert_entry-new bytes_eq old.state.commands c.args.label command.Child c.requires.free in
    (λ i. record (view_of old) { own = record (view_of old).own { commands = commands i; children = names i } })

pub invariant_of-up-2-clause-plain : goal.invariant_of-up-2-clause-plain
invariant_of-up-2-clause-plain c = λ known.
    let old = c.args.up.now.state in
    let both : (old.knows_plain_names && is_command_name c.args.twin) ≡ true = sym c.still_plain-up.ensures ∙ known in
    given_plain c.insert-2.result _ _ _ _ c.insert-2.ensures.entries c.insert-2.ensures.err (old.plain (first_of _ _ both)) (second_of old.knows_plain_names _ both)
