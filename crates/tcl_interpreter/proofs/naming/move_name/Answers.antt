use Rattle.std.proofs.Common.{◌≡◌, ◌<◌, refl, sym, ◌∙◌, ap, ◌++◌, ◌∷◌, [], None, cond, Bool, true, false, Option, arith}
use Rattle.std.specs.Str.{bytes_eq}
use Rattle.std.specs.Map.{lookup, remove_entry}
use Rattle.std.proofs.lemmas.Option.{same_Some}
use Rattle.indexmap.specs.IndexMap.{spare}
use Rattle.indexmap.proofs.CallerLemmas.{insert_entry-new}
use Rattle.tcl_interpreter.specs.declared.command.Command.{Command}
use Rattle.tcl_interpreter.proofs.Outcomes.{on_ok}
use Rattle.tcl_interpreter.proofs.naming.move_name.Goals as goal

gone : (b : Bool) (o : Option Command) → o ≡ None → cond b None o ≡ None
gone true o e = refl
gone false o e = e

pub returns-in-Some-clause-moved : goal.returns-in-Some-clause-moved
returns-in-Some-clause-moved c = λ command e.
    let kept = c.in_ok-reserve.ensures.entries in
    let taken = c.shift_remove.ensures.entries ∙ ap (remove_entry (bytes_eq c.args.name.now)) kept in
    let is : c.in-Some.command ≡ command = same_Some _ _ (sym c.in-Some.is ∙ c.shift_remove.ensures.value ∙ ap (lookup (bytes_eq c.args.name.now)) kept ∙ e) in
    let absent : lookup (bytes_eq c.args.new_name) c.shift_remove.new.self.entries ≡ None =
    c.shift_remove.ensures.updates.0 c.args.new_name ∙ gone (bytes_eq c.args.name.now c.args.new_name) _ (ap (lookup (bytes_eq c.args.new_name)) kept ∙ c.requires) in
    let free : 0 < spare c.shift_remove.new.self = let a = c.in_ok-reserve.ensures.ok in let b = c.shift_remove.ensures.room.0 in omega arith in
    on_ok c.insert.result c.insert.ensures.entries (c.insert.ensures.succeeds free)
    ∙ insert_entry-new bytes_eq c.shift_remove.new.self c.args.new_name c.in-Some.command absent
    ∙ (λ i. taken i ++ (c.args.new_name, is i) ∷ [])
