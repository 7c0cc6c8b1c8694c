-- Elements that end in a backslash.
use Rattle.std.proofs.Common.{◌≡◌, ℤ, false, sym, ◌∙◌, ap, subst, ◌⊎◌, inl, inr, Global}
use Rattle.std.specs.declared.rc.Rc.{Rc}
use Rattle.tcl_value.specs.Texts.{element_text, ends_in_backslash, IsElement}
use Rattle.tcl_value.specs.declared.element.Element.{Element}
use Rattle.tcl_value.specs.declared.element.Element.TheVariants.{Number, List as Inner, Dict}
use Rattle.tcl_value.specs.declared.items.Items.{Items}
use Rattle.tcl_value.specs.declared.entries.Entries.{Entries}
use Rattle.tcl_value.proofs.Laws.{number_end}

-- no number, list or dict that stands in a list ends in one
pub number_or_inner : (x : Element) → IsElement x → ((n : ℤ) × (x ≡ Number n)) ⊎ (((items : Rc Items Global) × (x ≡ Inner items)) ⊎ ((entries : Rc Entries Global) × (x ≡ Dict entries))) → false ≡ ends_in_backslash (element_text x)
number_or_inner x h (inl k) = sym (number_end k.0 (subst IsElement k.1 h)) ∙ ap (λ y. ends_in_backslash (element_text y)) (sym k.1)
number_or_inner x h (inr (inl k)) = let inner : IsElement (Inner k.0) = subst IsElement k.1 h in sym inner.0.ends ∙ ap (λ y. ends_in_backslash (element_text y)) (sym k.1)
number_or_inner x h (inr (inr k)) = let inner : IsElement (Dict k.0) = subst IsElement k.1 h in sym inner.ends ∙ ap (λ y. ends_in_backslash (element_text y)) (sym k.1)
