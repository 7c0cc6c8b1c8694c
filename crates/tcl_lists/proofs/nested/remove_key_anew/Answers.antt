use Rattle.std.proofs.Common.{refl, sym, subst, take, drop, length, ◌-◌, ◌∷◌, ◌≡◌}
use Rattle.std.proofs.lemmas.Result.{err_from_is_err_and}
use Rattle.tcl_lists.proofs.Placed.{given_on, first_and_rest}
use Rattle.tcl_lists.specs.Nested.{key_removed, RefusesText}
use Rattle.tcl_lists.proofs.Levels.{key_below, key_missing}
use Rattle.tcl_lists.proofs.nested.remove_key_anew.Goals as goal

pub returns-in_err-inner-in-len1-up-clause-refused : goal.returns-in_err-inner-in-len1-up-clause-refused
returns-in_err-inner-in-len1-up-clause-refused c =
    let item = c.first-item.result in
    let rest = take (length c.args.path.now - 1) (drop 1 c.args.path.now) in
    let cut : c.args.path.now ≡ item ∷ rest = first_and_rest c.args.path.now item c.in-len1-up.len_at_least c.first-item.is in
    let told = err_from_is_err_and c.from_residual-in_err-inner-in-len1-up.result c.from_residual-in_err-inner-in-len1-up.ensures.1 in
    let e = c.in_err-inner-in-len1-up.field-0.0 in
    given_on c.from_residual-in_err-inner-in-len1-up.result told.0 _ told.1 (subst (λ y. RefusesText y (key_removed c.args.path.now c.args.key.now c.args.own.now)) (sym told.2)
    (subst (λ p. RefusesText e (key_removed p c.args.key.now c.args.own.now)) (sym cut)
    (key_missing e item rest c.args.key.now c.args.own.now c.in_ok-found-in-len1-up.found _ refl c.in_ok-found-in-len1-up.ensures.found c.in_err-inner-in-len1-up.ensures.refused)))

pub returns-in_err-inner-in-len1-up-2-clause-refused : goal.returns-in_err-inner-in-len1-up-2-clause-refused
returns-in_err-inner-in-len1-up-2-clause-refused c =
    let item = c.first-item.result in
    let rest = take (length c.args.path.now - 1) (drop 1 c.args.path.now) in
    let cut : c.args.path.now ≡ item ∷ rest = first_and_rest c.args.path.now item c.in-len1-up.len_at_least c.first-item.is in
    let told = err_from_is_err_and c.from_residual-in_err-inner-in-len1-up-2.result c.from_residual-in_err-inner-in-len1-up-2.ensures.1 in
    let e = c.in_err-inner-in-len1-up-2.field-0.0 in
    given_on c.from_residual-in_err-inner-in-len1-up-2.result told.0 _ told.1 (subst (λ y. RefusesText y (key_removed c.args.path.now c.args.key.now c.args.own.now)) (sym told.2)
    (subst (λ p. RefusesText e (key_removed p c.args.key.now c.args.own.now)) (sym cut)
    (key_below e item rest c.args.key.now c.args.own.now c.in_ok-inner-in-len1-up.inner c.in_ok-found-in-len1-up.found _ refl c.in_ok-found-in-len1-up.ensures.found c.in_ok-inner-in-len1-up.ensures.found c.in_err-inner-in-len1-up-2.ensures.refused)))
