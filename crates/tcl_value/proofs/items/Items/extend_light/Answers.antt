use Rattle.std.proofs.Common.{arith, ◌≡◌, ◌<◌, ◌^◌, ap, ◌∙◌, sym, subst, ◌++◌, refl}
use Rattle.tcl_value.specs.Texts.{weight, weight_from, texts, AreElements}
use Rattle.tcl_value.proofs.Weights.{length-texts, kept_few}
use Rattle.tcl_value.proofs.Extended.{texts-append, AreElements-append, extended_weight}
use Rattle.tcl_value.proofs.Errors.{memory_alone}
use Rattle.tcl_value.proofs.items.Items.extend_light.Goals as goal

pub overflow_add-weight : goal.overflow_add-weight
overflow_add-weight c =
    let few : c.self.inside.weight < 2 ^ 90 = kept_few _ _ _ _ c.self.invariant.weighs c.self.invariant.elements c.self.inside.elements.ok.0 c.self.inside.elements.ok.1 c.self.inside.elements.small in
    omega (arith, c.weigh_from.ensures.few)

pub returns-then-weight-most-clause-refused : goal.returns-then-weight-most-clause-refused
returns-then-weight-most-clause-refused c =
    let all = extended_weight _ c.args.self.now (texts c.args.elements.items) c.self.inside.weight c.weigh_from.result _ c.is_empty.result c.self.invariant.weighs c.self.view_is c.is_empty.ensures
    (c.self.inside.elements.ok.0 ∙ sym (length-texts c.self.inside.elements.items)) (c.weigh_from.ensures.weight ∙ ap (λ xs. weight_from c.is_empty.result (texts xs)) c.deref.ensures.value) in
    ((λ e. omega arith), (λ p. refl))

pub returns-in_err-append-clause-refused : goal.returns-in_err-append-clause-refused
returns-in_err-append-clause-refused c =
    let all = extended_weight _ c.args.self.now (texts c.args.elements.items) c.self.inside.weight c.weigh_from.result _ c.is_empty.result c.self.invariant.weighs c.self.view_is c.is_empty.ensures
    (c.self.inside.elements.ok.0 ∙ sym (length-texts c.self.inside.elements.items)) (c.weigh_from.ensures.weight ∙ ap (λ xs. weight_from c.is_empty.result (texts xs)) c.deref.ensures.value) in
    memory_alone c.from_residual.result c.from_residual.ensures.1 (λ p. omega arith)

pub invariant_of-self-2 : goal.invariant_of-self-2
invariant_of-self-2 c =
    let now : texts c.append.new.self.items ≡ c.args.self.now ++ texts c.args.elements.items = ap texts c.in_ok-append.ensures.items ∙ texts-append c.self.inside.elements.items c.args.elements.items ∙ ap (λ t. t ++ texts c.args.elements.items) c.self.view_is in
    let all = extended_weight _ c.args.self.now (texts c.args.elements.items) c.self.inside.weight c.weigh_from.result _ c.is_empty.result c.self.invariant.weighs c.self.view_is c.is_empty.ensures
    (c.self.inside.elements.ok.0 ∙ sym (length-texts c.self.inside.elements.items)) (c.weigh_from.ensures.weight ∙ ap (λ xs. weight_from c.is_empty.result (texts xs)) c.deref.ensures.value) in
    record {
      elements = subst AreElements (sym c.in_ok-append.ensures.items) (AreElements-append c.self.inside.elements.items c.args.elements.items c.self.invariant.elements c.requires);
      weighs = all ∙ ap weight (sym now);
    }

pub returns-clause-light : goal.returns-clause-light
returns-clause-light c =
    let now : texts c.append.new.self.items ≡ c.args.self.now ++ texts c.args.elements.items = ap texts c.in_ok-append.ensures.items ∙ texts-append c.self.inside.elements.items c.args.elements.items ∙ ap (λ t. t ++ texts c.args.elements.items) c.self.view_is in
    let long = ap weight now in
    let all = extended_weight _ c.args.self.now (texts c.args.elements.items) c.self.inside.weight c.weigh_from.result _ c.is_empty.result c.self.invariant.weighs c.self.view_is c.is_empty.ensures
    (c.self.inside.elements.ok.0 ∙ sym (length-texts c.self.inside.elements.items)) (c.weigh_from.ensures.weight ∙ ap (λ xs. weight_from c.is_empty.result (texts xs)) c.deref.ensures.value) in
    omega arith

pub returns-clause-refused : goal.returns-clause-refused
returns-clause-refused c =
    let all = extended_weight _ c.args.self.now (texts c.args.elements.items) c.self.inside.weight c.weigh_from.result _ c.is_empty.result c.self.invariant.weighs c.self.view_is c.is_empty.ensures
    (c.self.inside.elements.ok.0 ∙ sym (length-texts c.self.inside.elements.items)) (c.weigh_from.ensures.weight ∙ ap (λ xs. weight_from c.is_empty.result (texts xs)) c.deref.ensures.value) in
    ((λ e. absurd (cc)), (λ p. absurd (omega arith)))
