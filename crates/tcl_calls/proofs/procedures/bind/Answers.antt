use Rattle.std.proofs.Common.{rules, ◌≡◌, ◌∷◌, ◌++◌, [], drop, Some, sym, ap, ◌∙◌, arith}
use Rattle.tcl_language.specs.Control.{bindings, fit_all}
use Rattle.tcl_calls.specs.Procedures.{pairs_of, joined, next_bound}
use Rattle.tcl_calls.proofs.Binding.{bind_next, joined_also, pairs_more, fit_more, first_of_two}
use Rattle.tcl_calls.proofs.procedures.bind.Goals as goal

pub parameters-preserved : goal.parameters-preserved
parameters-preserved c =
    let name = c.in_ok-clone-in-len2-up.ensures.cases in
    let value = c.known_short.ensures.same in
    let two = c.in-len2-up.len_at_least in
    let next : next_bound c.parameter-item.result.default c.parameters.left.now ≡ Some (c.in-Some.value, c.in-Some.others.now) = search rules in
    let made : pairs_of c.push.new.self.items ≡ pairs_of c.parameters.made.items ++ (c.parameter-item.result.name, c.in-Some.value) ∷ [] =
    ap pairs_of c.in_ok-push-in-len2-up.ensures.items ∙ pairs_more c.parameters.made.items _ ∙ (λ i. pairs_of c.parameters.made.items ++ (name i, value i) ∷ []) in
    let rest = first_of_two c.parameters.rest.now c.parameter-item.result c.parameter-item.is (omega (arith, two)) in
    let step = bind_next c.parameters.rest.now c.parameter-item.result c.parameters.left.now c.in-Some.value c.in-Some.others.now two c.parameter-item.is next in
    record {
      same = (λ i. joined (made i) (bindings (rest i) c.in-Some.others.now))
          ∙ sym (joined_also (pairs_of c.parameters.made.items) (c.parameter-item.result.name, c.in-Some.value) (bindings (drop 1 c.parameters.rest.now) c.in-Some.others.now))
          ∙ ap (joined (pairs_of c.parameters.made.items)) (sym step) ∙ c.parameters.invariant.same;
      fit = ap fit_all (ap pairs_of c.in_ok-push-in-len2-up.ensures.items ∙ pairs_more c.parameters.made.items _) ∙ fit_more (pairs_of c.parameters.made.items) _ c.parameters.invariant.fit (ap Rattle.tcl_language.specs.Instructions.fits value ∙ c.known_short.ensures.short);
    }
