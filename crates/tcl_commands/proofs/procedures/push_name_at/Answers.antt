use Rattle.std.proofs.Common.{◌++◌, ◌+◌, ◌∙◌, Bool, sym, ap, drop}
use Rattle.std.proofs.lemmas.Result.{on_ok_weaker}
use Rattle.std.specs.Option.{option_copied}
use Rattle.tcl_frames.specs.Chain.{kept_if}
use Rattle.tcl_language.specs.Procedures.{listed_names}
use Rattle.tcl_commands.proofs.ArrayEnds.{name_step}
use Rattle.tcl_commands.proofs.procedures.push_name_at.Goals as goal

pub returns : goal.returns
returns c =
    let es = c.args.commands.now.entries in
    let pattern = option_copied c.args.pattern in
    let rest = listed_names c.args.only_procedures pattern (drop (c.args.index + 1) es) in
    on_ok_weaker c.push_if.result (λ e. e ∙ ap (λ (b : Bool). c.args.names.now.items ++ kept_if b c.in-Some.name.now rest) c.is_wanted-wanted.ensures
    ∙ ap (λ xs. c.args.names.now.items ++ xs) (name_step c.args.only_procedures pattern es c.args.index c.in-Some.name.now c.in-Some.command.now (sym c.in-Some.ensures.entry))) (c.push_if.ensures rest)
