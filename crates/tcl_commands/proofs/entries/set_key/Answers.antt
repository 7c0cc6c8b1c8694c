use Rattle.std.proofs.Common.{◌∷◌, [], true, refl}
use Rattle.tcl_dicts.specs.Changing.{set_of, set_words_of}
use Rattle.tcl_language.specs.Changes.{changes}
use Rattle.tcl_tree.specs.TreeOf.{marks_of}
use Rattle.tcl_commands.proofs.Alterations.{changed_acts, words_go}
use Rattle.tcl_commands.proofs.entries.set_key.Goals as goal

pub returns-clause-acts : goal.returns-clause-acts
returns-clause-acts c =
    let name = c.args.name.now in
    let keys = c.args.key ∷ [] in
    let new = c.args.value in
    words_go c.args.tree.now c.change_variable.new.tree c.args.place (set_words_of (name ∷ c.args.key ∷ new ∷ [])) (name, keys, new) (λ p s. changes true p.0 (λ old. set_of old p.1 p.2)) c.change_variable.result refl
    (changed_acts c.args.tree.now c.change_variable.new.tree c.args.place (marks_of c.args.tree.now).integers true name (λ s old. set_of old keys new) c.change_variable.result refl c.change_variable.ensures.acts)
