use Rattle.std.proofs.Common.{false}
use Rattle.std.specs.Prelude.{codes}
use Rattle.tcl_lists.specs.Changing.{lset_of}
use Rattle.tcl_lists.specs.Lists.{first_middle_last}
use Rattle.tcl_language.specs.Changes.{changes}
use Rattle.tcl_commands.proofs.Alterations.{changed_acts, words_end, words_go}
use Rattle.tcl_commands.proofs.changing.lset.Goals as goal

pub returns-in-Ok-clause-acts : goal.returns-in-Ok-clause-acts
returns-in-Ok-clause-acts c =
    words_go c.args.tree.now c.change_named.new.tree c.args.place (first_middle_last (codes "lset varName ?index ...? newValue") c.args.args.now) (c.in-Ok.name.now, c.in-Ok.indexes.now, c.in-Ok.new.now) (λ p s. changes false p.0 (λ old. lset_of s old p.1 p.2)) c.change_named.result c.in-Ok.ensures
    (changed_acts c.args.tree.now c.change_named.new.tree c.args.place c.integers-style.result false c.in-Ok.name.now (λ s old. lset_of s old c.in-Ok.indexes.now c.in-Ok.new.now) c.change_named.result c.integers-style.ensures c.change_named.ensures.acts)

pub returns-in-Err-clause-acts : goal.returns-in-Err-clause-acts
returns-in-Err-clause-acts c = words_end c.args.tree.now c.args.place (first_middle_last (codes "lset varName ?index ...? newValue") c.args.args.now) c.in-Err.refusal c.refused.result (λ p s. changes false p.0 (λ old. lset_of s old p.1 p.2)) c.in-Err.ensures c.refused.ensures
