use Rattle.std.proofs.Common.{arith, ◌≡◌, ◌∙◌, ◌++◌, ◌∷◌, [], ap, sym, subst, take}
use Rattle.std.proofs.lemmas.List.{take_more}
use Rattle.tcl_value.specs.Texts.{element_text, texts, AreElements}
use Rattle.tcl_value.proofs.Weights.{texts-push, AreElements-push}
use Rattle.tcl_value.proofs.value.changing.elements_of.Goals as goal

pub values-preserved : goal.values-preserved
values-preserved c =
    let old = c.values.elements.items in
    let one = c.in_ok-into_element.field-0 in
    let text : element_text one ≡ c.value-item.result = c.in_ok-into_element.ensures.text ∙ c.in_ok-clone.ensures.cases in
    record {
      same = ap texts c.in_ok-push.ensures.items ∙ texts-push old one ∙ ap (λ x. texts old ++ x ∷ []) text ∙ ap (λ xs. xs ++ c.value-item.result ∷ []) c.values.invariant.same
          ∙ ap (λ x. take c.values.value-index c.args.values.now ++ x ∷ []) c.value-item.is
          ∙ sym (take_more c.args.values.now c.values.value-index c.value-item.result (omega arith));
      made = subst AreElements (sym c.in_ok-push.ensures.items) (AreElements-push old one c.values.invariant.made c.in_ok-into_element.ensures.element);
    }
