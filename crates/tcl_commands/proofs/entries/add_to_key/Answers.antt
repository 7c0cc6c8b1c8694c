use Rattle.std.proofs.Common.{◌∷◌, ℕ, List, Option, true, subst}
use Rattle.std.specs.Prelude.{codes}
use Rattle.tcl_dicts.specs.Changing.{incr_of}
use Rattle.tcl_language.specs.Changes.{changes}
use Rattle.tcl_language.specs.Instructions.{look}
use Rattle.tcl_run.specs.Plain.{Acts}
use Rattle.tcl_words.specs.Arguments.{two_or_three_words}
use Rattle.tcl_commands.specs.Changed.{changed}
use Rattle.tcl_commands.specs.Entries.{given_words}
use Rattle.tcl_commands.specs.Growing.{finishes, growth_of}
use Rattle.tcl_commands.proofs.Alterations.{changed_acts, words_go}
use Rattle.tcl_commands.proofs.Entering.{words_given}
use Rattle.tcl_commands.proofs.entries.add_to_key.Goals as goal

pub returns-clause-acts : goal.returns-clause-acts
returns-clause-acts c =
    let name = c.args.name.now in
    let key = c.args.key in
    let by = c.args.by in
    let own = c.integers-style.result in
    let made = c.change_variable in
    words_go c.args.tree.now made.new.tree c.args.place (two_or_three_words (codes "dict incr varName key ?increment?") (name ∷ key ∷ given_words by)) (name, key, by) (λ p s. changes true p.0 (λ old. incr_of s old p.1 p.2)) made.result (words_given (codes "dict incr varName key ?increment?") name key by)
    (changed_acts c.args.tree.now made.new.tree c.args.place own true name (λ s old. incr_of s old key by) made.result c.integers-style.ensures
    (subst (λ (b : Option (List ℕ)). Acts c.args.tree.now c.args.place (λ style. look (λ n. finishes n.own (changed true n.own.chain name (λ old. growth_of (incr_of own old key b))))) made.new.tree made.result) c.as_ref.ensures.value made.ensures.acts))
