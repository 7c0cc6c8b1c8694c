use Rattle.std.proofs.Common.{arith, ◌≡◌, ◌∙◌, ◌<◌, ◌^◌, ◌++◌, ap, sym, subst, refl, take, drop}
use Rattle.tcl_value.specs.Texts.{AreElements, texts, weight}
use Rattle.tcl_value.proofs.Weights.{length-texts, length-write}
use Rattle.tcl_value.proofs.Extended.{extended_weight}
use Rattle.tcl_value.proofs.Errors.{memory_alone}
use Rattle.tcl_value.proofs.Parts.{AreElements-part, texts-part, kept_fewer, clones_behind}
use Rattle.tcl_value.proofs.items.Items.extend_part.Goals as goal

pub overflow_add-weight : goal.overflow_add-weight
overflow_add-weight c =
    let few : c.self.inside.weight < 2 ^ 89 = kept_fewer _ _ _ _ c.self.invariant.weighs c.self.invariant.elements c.self.inside.elements.ok.0 c.self.inside.elements.ok.1 c.self.inside.elements.small in
    omega (arith, c.part_weight.ensures.few)

pub returns-then-weight-gt-MOST_WEIGHT-clause-refused : goal.returns-then-weight-gt-MOST_WEIGHT-clause-refused
returns-then-weight-gt-MOST_WEIGHT-clause-refused c =
    let all = extended_weight _ c.args.self.now (drop c.args.from (take c.args.to c.args.other.now)) c.self.inside.weight c.part_weight.result _ c.is_empty.result c.self.invariant.weighs c.self.view_is c.is_empty.ensures
    (c.self.inside.elements.ok.0 ∙ sym (length-texts c.self.inside.elements.items)) c.part_weight.ensures.weight in
    ((λ e. omega (arith, length-write (c.args.self.now ++ drop c.args.from (take c.args.to c.args.other.now)))), (λ p. refl))

pub returns-in_err-extend_from_slice-clause-refused : goal.returns-in_err-extend_from_slice-clause-refused
returns-in_err-extend_from_slice-clause-refused c =
    let all = extended_weight _ c.args.self.now (drop c.args.from (take c.args.to c.args.other.now)) c.self.inside.weight c.part_weight.result _ c.is_empty.result c.self.invariant.weighs c.self.view_is c.is_empty.ensures
    (c.self.inside.elements.ok.0 ∙ sym (length-texts c.self.inside.elements.items)) c.part_weight.ensures.weight in
    memory_alone c.from_residual.result c.from_residual.ensures.1 (λ p. omega (arith, length-write (c.args.self.now ++ drop c.args.from (take c.args.to c.args.other.now))))

now : (c : goal.After-self-2-1) → texts c.extend_from_slice.new.self.items ≡ c.args.self.now ++ drop c.args.from (take c.args.to c.args.other.now)
now c =
    let part = texts-part c.other.inside.elements.items c.deref.result.now c.args.other.now c.args.from c.args.to c.deref.ensures.value c.other.view_is c.requires.order in
    (clones_behind _ _ _ c.in_ok-extend_from_slice.ensures.items).0 ∙ ap (λ t. texts c.self.inside.elements.items ++ t) part ∙ ap (λ t. t ++ drop c.args.from (take c.args.to c.args.other.now)) c.self.view_is

pub invariant_of-self-2 : goal.invariant_of-self-2
invariant_of-self-2 c =
    let all = extended_weight _ c.args.self.now (drop c.args.from (take c.args.to c.args.other.now)) c.self.inside.weight c.part_weight.result _ c.is_empty.result c.self.invariant.weighs c.self.view_is c.is_empty.ensures
    (c.self.inside.elements.ok.0 ∙ sym (length-texts c.self.inside.elements.items)) c.part_weight.ensures.weight in
    record {
      elements = (clones_behind _ _ _ c.in_ok-extend_from_slice.ensures.items).1 c.self.invariant.elements
          (AreElements-part _ c.args.from _ (subst AreElements (sym c.deref.ensures.value) c.other.invariant.elements));
      weighs = all ∙ ap weight (sym (now c));
    }

pub returns-clause-extended : goal.returns-clause-extended
returns-clause-extended c = now c

pub returns-clause-within : goal.returns-clause-within
returns-clause-within c =
    let all = extended_weight _ c.args.self.now (drop c.args.from (take c.args.to c.args.other.now)) c.self.inside.weight c.part_weight.result _ c.is_empty.result c.self.invariant.weighs c.self.view_is c.is_empty.ensures
    (c.self.inside.elements.ok.0 ∙ sym (length-texts c.self.inside.elements.items)) c.part_weight.ensures.weight in
    let long = ap weight (now c) in
    omega (arith, length-write (texts c.extend_from_slice.new.self.items))

pub returns-clause-refused : goal.returns-clause-refused
returns-clause-refused c =
    let all = extended_weight _ c.args.self.now (drop c.args.from (take c.args.to c.args.other.now)) c.self.inside.weight c.part_weight.result _ c.is_empty.result c.self.invariant.weighs c.self.view_is c.is_empty.ensures
    (c.self.inside.elements.ok.0 ∙ sym (length-texts c.self.inside.elements.items)) c.part_weight.ensures.weight in
    ((λ e. absurd (cc)), (λ p. absurd (omega (arith, length-write (c.args.self.now ++ drop c.args.from (take c.args.to c.args.other.now))))))
