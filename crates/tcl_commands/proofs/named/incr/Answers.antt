use Rattle.std.proofs.Common.{◌∷◌, [], refl, subst, arith}
use Rattle.std.specs.Prelude.{codes}
use Rattle.tcl_language.specs.Instructions.{look}
use Rattle.tcl_run.specs.Plain.{Acts}
use Rattle.tcl_text.specs.declared.integer.Integers.{Integers}
use Rattle.tcl_commands.specs.Growing.{finishes, grown}
use Rattle.tcl_commands.specs.Sums.{raised}
use Rattle.tcl_commands.proofs.Raising.{incr_acts}
use Rattle.tcl_commands.proofs.named.incr.Goals as goal

pub returns-clause-acts : goal.returns-clause-acts
returns-clause-acts c =
    let name = c.args.name.now in
    let more = c.args.by ∷ [] in
    incr_acts c.args.tree.now c.grow_variable.new.tree c.args.place (name ∷ more) name more c.grow_variable.result refl (omega arith)
    (subst (λ (s : Integers). Acts c.args.tree.now c.args.place (λ style. look (λ n. finishes n.own (grown (codes "0") n.own.chain name (raised s more)))) c.grow_variable.new.tree c.grow_variable.result) c.integers.ensures c.grow_variable.ensures.acts)
