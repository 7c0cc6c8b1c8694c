use Rattle.std.proofs.Common.{◌≡◌, true, false, sym, ◌∙◌}
use Rattle.tcl_language.specs.Variables as variables
use Rattle.tcl_commands.proofs.Going.{acts_as}
use Rattle.tcl_commands.proofs.Setting.{unset_plain}
use Rattle.tcl_commands.proofs.unsetting.unset.Goals as goal

pub returns-else-is_text-clause-acts : goal.returns-else-is_text-clause-acts
returns-else-is_text-clause-acts c =
    let found = c.behind_options-else-is_text.result.now in
    acts_as c.args.tree.now c.unset_all-else-is_text.new.tree c.args.place (λ style. variables.unset c.args.args.now) (λ style. variables.unset_all false found) c.unset_all-else-is_text.result
    (λ style. unset_plain c.args.args.now c.word-item.result found c.in-len1-up.len_at_least c.word-item.is (λ e. let x : false ≡ true = sym c.if-is_text.false ∙ c.is_text.ensures.1 e in cc) (c.behind_options-else-is_text.ensures false))
    c.unset_all-else-is_text.ensures.acts
