use Rattle.std.proofs.Common.{◌≡◌, ◌∙◌, ap, ◌++◌, ◌∷◌, []}
use Rattle.std.specs.Str.{bytes_eq}
use Rattle.std.specs.Map.{lookup}
use Rattle.std.proofs.lemmas.Option.{same_Some}
use Rattle.indexmap.proofs.CallerLemmas.{insert_entry-new}
use Rattle.tcl_interpreter.proofs.Outcomes.{clash, on_ok}
use Rattle.tcl_interpreter.proofs.naming.move_command.Goals as goal

pub returns-in-Some-clause-put : goal.returns-in-Some-clause-put
returns-in-Some-clause-put c = λ command e.
    let kept = c.in_ok-reserve.ensures.entries in
    let ok = c.insert.ensures.succeeds c.in_ok-reserve.ensures.ok in
    let is : c.in-Some.command ≡ command = same_Some _ _ (c.in-Some.ensures.value ∙ e) in
    on_ok c.insert.result c.insert.ensures.entries ok
    ∙ insert_entry-new bytes_eq c.reserve.new.self c.args.new_name c.in-Some.command (ap (lookup (bytes_eq c.args.new_name)) kept ∙ c.requires)
    ∙ (λ i. kept i ++ (c.args.new_name, is i) ∷ [])

pub returns-in-None-clause-put : goal.returns-in-None-clause-put
returns-in-None-clause-put c = λ command e. absurd (clash command (c.in-None.ensures.value ∙ e))

pub returns-in-None-clause-taken : goal.returns-in-None-clause-taken
returns-in-None-clause-taken c = λ command e. absurd (clash command (c.in-None.ensures.value ∙ e))
