use Rattle.std.proofs.Common.{ℕ, List, subst}
use Rattle.tcl_language.specs.Instructions.{look}
use Rattle.tcl_run.specs.Plain.{Acts}
use Rattle.tcl_commands.specs.Growing.{finishes, grown}
use Rattle.tcl_commands.specs.GrowthKinds.{first_of, grown_by}
use Rattle.tcl_commands.proofs.growing.grow_named.Goals as goal

pub returns-clause-acts : goal.returns-clause-acts
returns-clause-acts c =
    let made = c.grow_variable in
    subst (λ (x : List ℕ). Acts c.args.tree.now c.args.place (λ style. look (λ n. finishes n.own (grown (first_of c.args.growth) n.own.chain x (grown_by c.args.growth c.args.more.now)))) made.new.tree made.result)
    c.in_ok-name.ensures made.ensures.acts
