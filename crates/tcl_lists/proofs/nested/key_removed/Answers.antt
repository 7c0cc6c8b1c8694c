use Rattle.std.proofs.Common.{arith, ap, sym, subst, ◌∙◌, ◌≡◌, drop, ◌∷◌, ◌+◌, ◌++◌, []}
use Rattle.std.proofs.lemmas.List.{drop_more, drop_all}
use Rattle.std.proofs.lemmas.Result.{err_from_is_err_and}
use Rattle.tcl_lists.specs.Nested.{known, key_removed, RefusesText}
use Rattle.tcl_lists.specs.Steps.{raised}
use Rattle.tcl_lists.specs.declared.step.Step.TheVariants.{Entry}
use Rattle.tcl_lists.proofs.Placed.{given_on}
use Rattle.tcl_lists.proofs.Levels.{further, key_down, removal_refused, refused_above}
use Rattle.tcl_lists.proofs.nested.key_removed.Goals as goal

pub path-preserved : goal.path-preserved
path-preserved c =
    let item = c.first-item.result in
    let rest = drop (c.path.first-index + 1) c.args.path.now in
    let cut = drop_more c.args.path.now c.path.first-index item (omega arith) ∙ ap (λ x. x ∷ rest) (sym c.first-item.is) in
    let found = c.in_ok-dict.ensures.found in
    let pushed : c.push.new.self.items ≡ c.path.steps.items ++ Entry c.in_ok-dict.dict c.in_ok-clone.field-0 ∷ [] = c.in_ok-push.ensures.items in
    further (key_removed c.args.path.now c.args.key.now c.args.own) (key_removed (item ∷ rest) c.args.key.now c.path.at) (key_removed rest c.args.key.now c.in_ok-inner.inner)
    c.path.steps.items c.push.new.self.items (Entry c.in_ok-dict.dict item)
    (c.path.invariant ∙ ap (λ p. raised c.path.steps.items (key_removed p c.args.key.now c.path.at)) cut)
    (key_down item rest c.args.key.now c.path.at c.in_ok-inner.inner c.in_ok-dict.dict found.0 (sym (ap (known item) found.1) ∙ c.in_ok-inner.ensures.found))
    (pushed ∙ ap (λ k. c.path.steps.items ++ Entry c.in_ok-dict.dict k ∷ []) c.in_ok-clone.ensures.cases)

pub returns-in_err-remove_key-clause-refused : goal.returns-in_err-remove_key-clause-refused
returns-in_err-remove_key-clause-refused c =
    let p = err_from_is_err_and c.from_residual-in_err-remove_key.result c.from_residual-in_err-remove_key.ensures.1 in
    let here = removal_refused c.in_err-remove_key.field-0.0 c.path.at c.in_ok-key.key c.args.key.now c.in_ok-key.ensures c.in_err-remove_key.ensures.refused in
    let none = drop_all c.path.first-index c.args.path.now (omega arith) in
    let whole = c.path.invariant ∙ ap (λ q. raised c.path.steps.items (key_removed q c.args.key.now c.path.at)) none in
    given_on c.from_residual-in_err-remove_key.result p.0 _ p.1
    (subst (λ e. RefusesText e (key_removed c.args.path.now c.args.key.now c.args.own)) (sym p.2)
    (subst (RefusesText _) (sym whole) (refused_above _ c.path.steps.items (key_removed [] c.args.key.now c.path.at) here)))
