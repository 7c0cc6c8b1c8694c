use Rattle.std.proofs.Common.{true, refl}
use Rattle.std.specs.Prelude.{codes}
use Rattle.tcl_dicts.specs.Changing.{lappend_of}
use Rattle.tcl_lists.specs.Lists.{two_and_rest}
use Rattle.tcl_language.specs.Changes.{changes}
use Rattle.tcl_tree.specs.TreeOf.{marks_of}
use Rattle.tcl_commands.proofs.Alterations.{changed_acts, words_end, words_go}
use Rattle.tcl_commands.proofs.changing.dict_lappend.Goals as goal

pub returns-in-Ok-clause-acts : goal.returns-in-Ok-clause-acts
returns-in-Ok-clause-acts c =
    words_go c.args.tree.now c.change_named.new.tree c.args.place (two_and_rest (codes "dict lappend varName key ?value ...?") c.args.args.now) (c.in-Ok.name.now, c.in-Ok.key.now, c.in-Ok.words.now) (λ p s. changes true p.0 (λ old. lappend_of old p.1 p.2)) c.change_named.result c.in-Ok.ensures
    (changed_acts c.args.tree.now c.change_named.new.tree c.args.place (marks_of c.args.tree.now).integers true c.in-Ok.name.now (λ s old. lappend_of old c.in-Ok.key.now c.in-Ok.words.now) c.change_named.result refl c.change_named.ensures.acts)

pub returns-in-Err-clause-acts : goal.returns-in-Err-clause-acts
returns-in-Err-clause-acts c = words_end c.args.tree.now c.args.place (two_and_rest (codes "dict lappend varName key ?value ...?") c.args.args.now) c.in-Err.refusal c.refused.result (λ p s. changes true p.0 (λ old. lappend_of old p.1 p.2)) c.in-Err.ensures c.refused.ensures
