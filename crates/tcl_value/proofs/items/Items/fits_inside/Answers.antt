use Rattle.std.proofs.Common.{◌≡◌, ◌∙◌, ap, sym, subst, arith, length, ◌-◌, get_or, List, ℕ}
use Rattle.tcl_value.specs.Texts.{IsElement, element_text, texts}
use Rattle.tcl_value.specs.declared.element.Element.{Element}
use Rattle.tcl_value.proofs.Weights.{AreElements-get, texts-get, length-texts}
use Rattle.tcl_value.proofs.Laws.{not_true}
use Rattle.tcl_value.proofs.Inner.{inner_list}
use Rattle.tcl_value.proofs.items.Items.fits_inside.Goals as goal

pub ends_in_backslash-requires : goal.ends_in_backslash-requires
ends_in_backslash-requires c =
    let long = ap length c.self.view_is in
    let last : c.in-Some.last.now ≡ get_or c.self.inside.elements.items (length c.self.inside.elements.items - 1) c.in-Some.last.now = c.in-Some.ensures.item.1 ∙ ap (λ (xs : List Element). get_or xs (length xs - 1) c.in-Some.last.now) c.deref.ensures.value in
    subst IsElement (sym last) (AreElements-get c.self.inside.elements.items _ c.in-Some.last.now c.self.invariant.elements (omega (arith, length-texts c.self.inside.elements.items, c.requires.several)))

pub returns-then-self-lt-MOST_DEPTH : goal.returns-then-self-lt-MOST_DEPTH
returns-then-self-lt-MOST_DEPTH c h =
    let last : c.in-Some.last.now ≡ get_or c.self.inside.elements.items (length c.self.inside.elements.items - 1) c.in-Some.last.now = c.in-Some.ensures.item.1 ∙ ap (λ (xs : List Element). get_or xs (length xs - 1) c.in-Some.last.now) c.deref.ensures.value in
    let text : element_text c.in-Some.last.now ≡ get_or c.args.self.now (length c.args.self.now - 1) (element_text c.in-Some.last.now) =
    ap element_text last ∙ texts-get c.self.inside.elements.items (length c.self.inside.elements.items - 1) c.in-Some.last.now
    ∙ ap (λ n. get_or (texts c.self.inside.elements.items) (n - 1) (element_text c.in-Some.last.now)) (sym (length-texts c.self.inside.elements.items))
    ∙ ap (λ (xs : List (List ℕ)). get_or xs (length xs - 1) (element_text c.in-Some.last.now)) c.self.view_is in
    inner_list c.args.self.now (element_text c.in-Some.last.now) c.requires.several text (sym c.ends_in_backslash.ensures ∙ not_true c.ends_in_backslash.result h) c.requires.within
