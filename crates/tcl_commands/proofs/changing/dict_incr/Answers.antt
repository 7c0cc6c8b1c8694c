use Rattle.std.proofs.Common.{true}
use Rattle.std.specs.Prelude.{codes}
use Rattle.std.specs.Option.{option_copied}
use Rattle.tcl_dicts.specs.Changing.{incr_of}
use Rattle.tcl_words.specs.Arguments.{two_or_three_words}
use Rattle.tcl_language.specs.Changes.{changes}
use Rattle.tcl_commands.proofs.Alterations.{changed_acts, words_end, words_go}
use Rattle.tcl_commands.proofs.changing.dict_incr.Goals as goal

pub returns-in-Ok-clause-acts : goal.returns-in-Ok-clause-acts
returns-in-Ok-clause-acts c =
    words_go c.args.tree.now c.change_named.new.tree c.args.place (two_or_three_words (codes "dict incr varName key ?increment?") c.args.args.now) (c.in-Ok.name.now, c.in-Ok.key.now, option_copied c.in-Ok.by) (λ p s. changes true p.0 (λ old. incr_of s old p.1 p.2)) c.change_named.result c.in-Ok.ensures
    (changed_acts c.args.tree.now c.change_named.new.tree c.args.place c.integers-style.result true c.in-Ok.name.now (λ s old. incr_of s old c.in-Ok.key.now (option_copied c.in-Ok.by)) c.change_named.result c.integers-style.ensures c.change_named.ensures.acts)

pub returns-in-Err-clause-acts : goal.returns-in-Err-clause-acts
returns-in-Err-clause-acts c = words_end c.args.tree.now c.args.place (two_or_three_words (codes "dict incr varName key ?increment?") c.args.args.now) c.in-Err.refusal c.refused.result (λ p s. changes true p.0 (λ old. incr_of s old p.1 p.2)) c.in-Err.ensures c.refused.ensures
