use Rattle.std.proofs.Common.{◌∷◌, [], false, refl}
use Rattle.std.specs.Prelude.{codes}
use Rattle.tcl_lists.specs.Changing.{lset_of}
use Rattle.tcl_lists.specs.Lists.{first_middle_last}
use Rattle.tcl_language.specs.Changes.{changes}
use Rattle.tcl_commands.proofs.Alterations.{changed_acts, words_go}
use Rattle.tcl_commands.proofs.entries.set_element.Goals as goal

pub returns-clause-acts : goal.returns-clause-acts
returns-clause-acts c =
    let name = c.args.name.now in
    let indexes = c.args.index ∷ [] in
    let new = c.args.value in
    words_go c.args.tree.now c.change_variable.new.tree c.args.place (first_middle_last (codes "lset varName ?index ...? newValue") (name ∷ c.args.index ∷ new ∷ [])) (name, indexes, new) (λ p s. changes false p.0 (λ old. lset_of s old p.1 p.2)) c.change_variable.result refl
    (changed_acts c.args.tree.now c.change_variable.new.tree c.args.place c.integers-style.result false name (λ s old. lset_of s old indexes new) c.change_variable.result c.integers-style.ensures c.change_variable.ensures.acts)
