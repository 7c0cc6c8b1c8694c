use Rattle.std.proofs.Common.{◌∷◌, [], true, refl}
use Rattle.std.specs.Prelude.{codes}
use Rattle.tcl_dicts.specs.Changing.{append_of}
use Rattle.tcl_lists.specs.Lists.{two_and_rest}
use Rattle.tcl_language.specs.Changes.{changes}
use Rattle.tcl_tree.specs.TreeOf.{marks_of}
use Rattle.tcl_commands.proofs.Alterations.{changed_acts, words_go}
use Rattle.tcl_commands.proofs.entries.append_to_key.Goals as goal

pub returns-clause-acts : goal.returns-clause-acts
returns-clause-acts c =
    let name = c.args.name.now in
    let key = c.args.key in
    let words = c.args.value ∷ [] in
    words_go c.args.tree.now c.change_variable.new.tree c.args.place (two_and_rest (codes "dict append varName key ?string ...?") (name ∷ key ∷ words)) (name, key, words) (λ p s. changes true p.0 (λ old. append_of old p.1 p.2)) c.change_variable.result refl
    (changed_acts c.args.tree.now c.change_variable.new.tree c.args.place (marks_of c.args.tree.now).integers true name (λ s old. append_of old key words) c.change_variable.result refl c.change_variable.ensures.acts)
