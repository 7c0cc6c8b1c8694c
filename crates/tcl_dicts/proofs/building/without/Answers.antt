use Rattle.std.proofs.Common.{ℕ, List, Err, ap, subst}
use Rattle.tcl_words.specs.Outcomes.{Refuses}
use Rattle.tcl_value.specs.Dicts.{Pairs}
use Rattle.tcl_dicts.specs.Dicts.{without_within}
use Rattle.tcl_dicts.proofs.Steps.{without_past, refuses_dict}
use Rattle.tcl_dicts.proofs.building.without.Goals as goal

pub returns-in-Err : goal.returns-in-Err
returns-in-Err c =
    subst (λ (k : List ℕ). Refuses {X = Pairs} c.not_made.result (without_within c.args.dict k)) c.in_ok-key.ensures
    (refuses_dict c.not_made.result c.in-Err.why (without_within c.args.dict c.in_ok-key.key) c.not_made.ensures (λ is. without_past c.args.dict c.in_ok-key.key (c.in-Err.ensures.refused (ap Err is))))
