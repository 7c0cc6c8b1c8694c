use Rattle.std.proofs.Common.{refl, sym, subst, take, drop, length, ◌-◌, ◌∷◌, ◌≡◌, arith}
use Rattle.std.proofs.lemmas.Result.{err_from_is_err_and}
use Rattle.tcl_lists.proofs.Placed.{given_on, first_and_rest}
use Rattle.tcl_lists.specs.Nested.{value_changed, RefusesText}
use Rattle.tcl_lists.proofs.Levels.{value_below}
use Rattle.tcl_lists.proofs.nested.set_value_anew.Goals as goal

pub returns-in_err-inner-in-len1-up-clause-refused : goal.returns-in_err-inner-in-len1-up-clause-refused
returns-in_err-inner-in-len1-up-clause-refused c =
    let item = c.key-item.result in
    let rest = take (length c.args.path.now - 1) (drop 1 c.args.path.now) in
    let cut : c.args.path.now ≡ item ∷ rest = first_and_rest c.args.path.now item (omega (arith, c.in-len1-up.len_at_least)) c.key-item.is in
    let told = err_from_is_err_and c.from_residual-in_err-inner-in-len1-up.result c.from_residual-in_err-inner-in-len1-up.ensures.1 in
    let e = c.in_err-inner-in-len1-up.field-0.0 in
    given_on c.from_residual-in_err-inner-in-len1-up.result told.0 _ told.1 (subst (λ y. RefusesText y (value_changed c.args.path.now c.args.value c.args.own.now)) (sym told.2)
    (subst (λ p. RefusesText e (value_changed p c.args.value c.args.own.now)) (sym cut)
    (value_below e item rest c.args.value c.args.own.now c.or_empty.result c.in_ok-found-in-len1-up.found _ refl c.in_ok-found-in-len1-up.ensures.found c.or_empty.ensures c.in_err-inner-in-len1-up.ensures.refused)))
