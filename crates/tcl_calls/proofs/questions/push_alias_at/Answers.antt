use Rattle.std.proofs.Common.{◌++◌, ◌+◌, ◌∙◌, sym, ap, drop}
use Rattle.std.proofs.lemmas.Result.{on_ok_weaker}
use Rattle.tcl_language.specs.Interpreters.{aliases_in}
use Rattle.tcl_calls.proofs.Listed.{alias_step}
use Rattle.tcl_calls.proofs.questions.push_alias_at.Goals as goal

pub returns : goal.returns
returns c =
    let es = c.args.commands.now.entries in
    on_ok_weaker c.push_alias.result (λ e. e ∙ ap (λ xs. c.args.names.now.items ++ xs) (alias_step es c.args.index c.in-Some.name.now c.in-Some.command.now (sym c.in-Some.ensures.entry))) (c.push_alias.ensures (aliases_in (drop (c.args.index + 1) es)))
