use Rattle.std.proofs.Common.{◌≡◌, List, ℕ, sym, ap, subst, ◌∙◌}
use Rattle.std.specs.Prelude.{Ok}
use Rattle.tcl_text.specs.Lists.{list_of}
use Rattle.tcl_commands.proofs.ArrayEnds.{list_goes}
use Rattle.tcl_commands.proofs.arrays.set_list.Goals as goal

pub returns-clause-acts : goal.returns-clause-acts
returns-clause-acts c =
    let read : list_of c.args.list.now ≡ Ok c.as_slice.result.now =
    subst (λ (ws : List (List ℕ)). list_of c.args.list.now ≡ Ok ws) (sym c.in_ok-words.ensures ∙ sym c.as_slice.ensures.value) (ap list_of (sym c.in_ok-own.ensures.cases) ∙ c.in_ok-elements.ensures.read) in
    list_goes c.args.tree.now c.set_words.new.tree c.args.place c.args.name.now c.args.list.now c.as_slice.result.now c.set_words.result read c.set_words.ensures.acts
