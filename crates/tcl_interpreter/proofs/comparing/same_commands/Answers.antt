use Rattle.std.proofs.Common.{◌≡◌, Some, refl, sym, ◌∙◌, arith}
use Rattle.tcl_interpreter.proofs.SameLemmas.{same_more, same_all}
use Rattle.tcl_interpreter.proofs.comparing.same_commands.Goals as goal

pub returns : goal.returns
returns c =
    let all : c.args.these.now.entries ≡ c.args.those.now.entries = same_all c.args.these.now.entries c.args.those.now.entries c.commands.index (omega arith) (omega arith) c.commands.invariant in
    (λ t. all, λ e. refl)

pub commands-preserved : goal.commands-preserved
commands-preserved c =
    let name = c.same.ensures.0 c.if-not-same.false in
    let command = c.same-in-commands.ensures.0 c.if-not-same-2.false in
    same_more c.args.these.now.entries c.args.those.now.entries c.commands.index (c.in-Some.name.now, c.in-Some.command.now) c.commands.invariant (sym c.in-Some.ensures.entry) (sym c.in-Some-get_index.ensures.entry ∙ (λ i. Some (sym name i, sym command i)))
