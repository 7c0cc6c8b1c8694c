use Rattle.std.proofs.Common.{◌≡◌, ℕ, List, [], ◌∷◌, subst}
use Rattle.tcl_words.specs.Outcomes.{Refuses}
use Rattle.tcl_lists.specs.Lists.{lappend_of}
use Rattle.tcl_lists.proofs.Refused.{extend_refused}
use Rattle.tcl_lists.proofs.lengthening.push.Goals as goal

pub returns-in-Err : goal.returns-in-Err
returns-in-Err c =
    let same : c.in_ok-own.own ≡ c.args.word.now = c.in_ok-own.ensures.cases in
    (subst (λ (w : List ℕ). Refuses c.not_changed.result (lappend_of c.args.old.now (w ∷ []))) same (extend_refused _ _ _ (c.in_ok-own.own ∷ []) c.not_changed.ensures c.in-Err.ensures.refused), c.in-Err.ensures.unchanged)
