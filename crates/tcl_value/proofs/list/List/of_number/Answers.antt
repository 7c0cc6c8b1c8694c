use Rattle.std.proofs.Common.{◌≡◌, ◌∙◌, ◌++◌, ◌∷◌, [], ap, sym, subst, w64, to_z, of_z, FitsSigned}
use Rattle.std.proofs.lemmas.Int.{to_z-of_z}
use Rattle.tcl_value.specs.Texts.{AreElements}
use Rattle.tcl_value.specs.declared.element.Element.TheVariants.{Number}
use Rattle.tcl_value.proofs.list.List.of_number.Goals as goal

pub from_elements-requires : goal.from_elements-requires
from_elements-requires c =
    let items : c.push.new.self.items ≡ Number (to_z w64 (of_z w64 c.args.n)) ∷ [] = c.in_ok-push.ensures.items ∙ ap (λ xs. xs ++ Number (to_z w64 (of_z w64 c.args.n)) ∷ []) c.new-elements.ensures.items in
    subst AreElements (sym items) (subst (FitsSigned w64) (sym (to_z-of_z w64 c.args.n c.ranges.n)) c.ranges.n, tt)
