use Rattle.std.proofs.Common.{◌<◌, drop, length, length-drop, ap, subst, arith}
use Rattle.std.specs.Prelude.{codes, take, ◌-◌}
use Rattle.tcl_language.specs.Instructions.{look}
use Rattle.tcl_run.specs.Plain.{Acts}
use Rattle.tcl_text.specs.declared.integer.Integers.{Integers}
use Rattle.tcl_commands.specs.Growing.{finishes, grown}
use Rattle.tcl_commands.specs.Sums.{raised}
use Rattle.tcl_commands.proofs.Linking.{behind, one_front}
use Rattle.tcl_commands.proofs.Raising.{incr_acts}
use Rattle.tcl_commands.proofs.variables.incr.Goals as goal

pub returns-in-len1-up-clause-acts : goal.returns-in-len1-up-clause-acts
returns-in-len1-up-clause-acts c =
    let name = c.name-item.result in
    let more = take (length c.args.args.now - 1) (drop 1 c.args.args.now) in
    let few : length more < 2 = omega (arith, c.if-words-lt2.true, ap length (behind 1 c.args.args.now), length-drop 1 c.args.args.now) in
    incr_acts c.args.tree.now c.grow_named.new.tree c.args.place c.args.args.now name more c.grow_named.result (one_front c.args.args.now name c.in-len1-up.len_at_least c.name-item.is) few
    (subst (λ (s : Integers). Acts c.args.tree.now c.args.place (λ style. look (λ n. finishes n.own (grown (codes "0") n.own.chain name (raised s more)))) c.grow_named.new.tree c.grow_named.result) c.integers.ensures c.grow_named.ensures.acts)
