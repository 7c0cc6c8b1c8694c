-- Options, one by one.
use Rattle.std.proofs.Common.{◌≡◌, ℕ, ◌+◌, ◌<◌, List, ◌∷◌, length, drop, get_or, Ok, sym, ◌∙◌, ap}
use Rattle.tcl_words.specs.Outcomes.{next}
use Rattle.tcl_lists.specs.Lists.{Texts}
use Rattle.std.specs.declared.result.Result.{Result}
use Rattle.std.proofs.lemmas.List.{drop_more}
use Rattle.tcl_lists.specs.SortCommand.{with_option, with_options}
use Rattle.tcl_lists.specs.declared.sort_options.Sorting.{Sorting}

-- one option more
pub options_step : (s t : Sorting) (words : Texts) (i : ℕ) (w : List ℕ) (whole : Result Sorting (List ℕ)) → i < length words → w ≡ get_or words i w → with_option s w ≡ Ok t → with_options s (drop i words) ≡ whole → with_options t (drop (i + 1) words) ≡ whole
options_step s t words i w whole h e made at =
    let rest = drop (i + 1) words in
    let here : drop i words ≡ w ∷ rest = drop_more words i w h ∙ ap (λ x. x ∷ rest) (sym e) in
    ap (λ (o : Result Sorting (List ℕ)). next o (λ u. with_options u rest)) (sym made) ∙ (ap (with_options s) (sym here) ∙ at)
