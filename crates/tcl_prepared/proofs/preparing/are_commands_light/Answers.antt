use Rattle.std.proofs.Common.{◌≤◌, ◌∙◌, subst}
use Rattle.tcl_prepared.specs.Brackets.{words_weight}
use Rattle.tcl_prepared.proofs.ListLemmas.{heaviest_more}
use Rattle.tcl_prepared.proofs.preparing.are_commands_light.Goals as goal

pub commands-preserved : goal.commands-preserved
commands-preserved c =
    heaviest_more words_weight c.args.commands.now c.commands.command-index c.command-item.result c.args.most c.commands-test.true c.command-item.is (subst (λ ws. words_weight ws ≤ c.args.most) (c.as_slice.ensures.value ∙ c.command.view_is) (c.are_words_light.ensures c.if-not-are_words_light.false)) c.commands.invariant
