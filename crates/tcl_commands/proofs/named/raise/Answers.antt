use Rattle.std.proofs.Common.{◌∷◌, refl, subst}
use Rattle.std.specs.Prelude.{codes}
use Rattle.tcl_language.specs.Instructions.{look}
use Rattle.tcl_run.specs.Plain.{Acts}
use Rattle.tcl_text.specs.declared.integer.Integers.{Integers}
use Rattle.tcl_commands.specs.Growing.{finishes, grown}
use Rattle.tcl_commands.specs.Sums.{added_words, raised}
use Rattle.tcl_commands.proofs.Raising.{few_added, incr_acts}
use Rattle.tcl_commands.proofs.named.raise.Goals as goal

pub returns-clause-acts : goal.returns-clause-acts
returns-clause-acts c =
    let name = c.args.name.now in
    let more = added_words c.args.by in
    incr_acts c.args.tree.now c.raise_variable.new.tree c.args.place (name ∷ more) name more c.raise_variable.result refl (few_added c.args.by)
    (subst (λ (s : Integers). Acts c.args.tree.now c.args.place (λ style. look (λ n. finishes n.own (grown (codes "0") n.own.chain name (raised s more)))) c.raise_variable.new.tree c.raise_variable.result) c.integers.ensures c.raise_variable.ensures.acts)
