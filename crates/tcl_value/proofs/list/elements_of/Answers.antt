use Rattle.std.proofs.Common.{arith, ◌∙◌, ◌++◌, ◌∷◌, [], ap, sym, subst}
use Rattle.tcl_value.specs.Limits.{IsWithin}
use Rattle.tcl_value.proofs.Writes.{one_more, one_more_element}
use Rattle.std.proofs.lemmas.List.{take_more}
use Rattle.std.proofs.Common.{take}
use Rattle.tcl_value.proofs.list.elements_of.Goals as goal

pub texts-preserved : goal.texts-preserved
texts-preserved c =
    record {
      same = one_more _ _ c.in_ok-clone.field-0 c.text-item.result _ c.in_ok-push.ensures.items c.in_ok-clone.ensures.cases c.texts.invariant.same
          ∙ ap (λ x. take c.texts.text-index c.args.texts.now ++ x ∷ []) c.text-item.is
          ∙ sym (take_more c.args.texts.now c.texts.text-index c.text-item.result (omega arith));
      made = one_more_element _ _ c.in_ok-clone.field-0 c.in_ok-push.ensures.items c.texts.invariant.made (subst IsWithin (sym c.in_ok-clone.ensures.cases) (omega (arith, c.len.ensures)));
    }
