use Rattle.std.proofs.Common.{ℕ, List, subst}
use Rattle.tcl_language.specs.Instructions.{look}
use Rattle.tcl_run.specs.Plain.{Acts}
use Rattle.tcl_commands.specs.Changed.{altered, changed}
use Rattle.tcl_commands.specs.Growing.{finishes}
use Rattle.tcl_commands.proofs.changing.change_named.Goals as goal

pub returns-clause-acts : goal.returns-clause-acts
returns-clause-acts c =
    let made = c.change_variable in
    subst (λ (x : List ℕ). Acts c.args.tree.now c.args.place (λ style. look (λ n. finishes n.own (changed c.args.makes n.own.chain x (altered c.args.change)))) made.new.tree made.result)
    c.in_ok-name.ensures made.ensures.acts
