use Rattle.std.proofs.Common.{◌∙◌, ◌++◌, sym, ap}
use Rattle.tcl_characters.proofs.MapLemmas.{match_map}
use Rattle.tcl_characters.proofs.RunLemmas.{same_found, same_absent}
use Rattle.tcl_characters.proofs.mapping.behind_same.Goals as goal

pub returns : goal.returns
returns c =
    let key = c.args.key.now in
    let text = c.args.text.now in
    match_map c.strip_prefix.result _ _ _ _ (λ none. same_absent key text c.utf8.key c.utf8.text none)
    (λ rest h. same_found key text rest.now c.utf8.key (h.1.1 ∙ ap (λ t. key ++ t) (sym h.2)))
    c.strip_prefix.ensures.cases
