use Rattle.std.proofs.Common.{◌≡◌, ℕ, List, Err, ap, subst}
use Rattle.tcl_words.specs.Outcomes.{Refuses}
use Rattle.tcl_value.specs.Dicts.{Pairs}
use Rattle.tcl_dicts.specs.Dicts.{put_within}
use Rattle.tcl_dicts.proofs.Steps.{put_past, refuses_dict}
use Rattle.tcl_dicts.proofs.building.put.Goals as goal

pub returns-in-Err : goal.returns-in-Err
returns-in-Err c =
    let same : c.in_ok-own.own ≡ c.args.value.now = c.in_ok-own.ensures.cases in
    subst (λ (v : List ℕ). Refuses {X = Pairs} c.not_made.result (put_within c.args.dict c.args.key.now v)) same
    (refuses_dict c.not_made.result c.in-Err.why (put_within c.args.dict c.args.key.now c.in_ok-own.own) c.not_made.ensures (λ is. put_past c.args.dict c.args.key.now c.in_ok-own.own (c.in-Err.ensures.refused (ap Err is))))
