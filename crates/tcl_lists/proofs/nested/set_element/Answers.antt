use Rattle.std.proofs.Common.{ap, sym, subst, take, drop, length, ◌-◌, ◌∷◌, ◌≡◌, arith}
use Rattle.std.proofs.lemmas.Bool.{OnFalse_at}
use Rattle.std.proofs.lemmas.Result.{err_from_is_err_and}
use Rattle.tcl_value.specs.Reading.{list_of}
use Rattle.tcl_lists.proofs.Placed.{given_on, first_and_rest}
use Rattle.tcl_lists.specs.Nested.{element_changed, RefusesText}
use Rattle.tcl_lists.proofs.Levels.{element_below}
use Rattle.tcl_lists.proofs.nested.set_element.Goals as goal

pub returns-in_err-inner-in-len1-up-clause-refused : goal.returns-in_err-inner-in-len1-up-clause-refused
returns-in_err-inner-in-len1-up-clause-refused c =
    let same = OnFalse_at c.if-put_in_place.false c.put_in_place.ensures.unchanged in
    let item = c.index-item.result in
    let rest = take (length c.args.path.now - 1) (drop 1 c.args.path.now) in
    let cut : c.args.path.now ≡ item ∷ rest = first_and_rest c.args.path.now item (omega (arith, c.in-len1-up.len_at_least)) c.index-item.is in
    let told = err_from_is_err_and c.from_residual-in_err-inner-in-len1-up.result c.from_residual-in_err-inner-in-len1-up.ensures.1 in
    let e = c.in_err-inner-in-len1-up.field-0.0 in
    given_on c.from_residual-in_err-inner-in-len1-up.result told.0 _ told.1 (subst (λ y. RefusesText y (element_changed c.args.style c.args.path.now c.args.value c.args.own.now)) (sym told.2)
    (subst (λ p. RefusesText e (element_changed c.args.style p c.args.value c.args.own.now)) (sym cut)
    (element_below e c.args.style item rest c.args.value c.args.own.now c.in_ok-place-in-len1-up.inner c.in_ok-place-in-len1-up.place _ (ap list_of (sym same)) c.in_ok-place-in-len1-up.ensures.found c.in_err-inner-in-len1-up.ensures.refused)))
