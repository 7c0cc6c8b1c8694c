use Rattle.std.proofs.Common.{◌≡◌, ◌∙◌, ap, sym, subst, arith, length, ◌-◌, get_or, List}
use Rattle.tcl_value.specs.Texts.{IsElement, element_text, texts, flat}
use Rattle.tcl_value.specs.declared.element.Element.{Element}
use Rattle.tcl_value.proofs.Weights.{AreElements-get, texts-get, length-texts}
use Rattle.tcl_value.proofs.Writes.{length-pairs, flat_last, length-flat}
use Rattle.tcl_value.proofs.Laws.{not_true}
use Rattle.tcl_value.proofs.Inner.{inner_list}
use Rattle.tcl_value.proofs.entries.Entries.fits_inside.Goals as goal

pub ends_in_backslash-requires : goal.ends_in_backslash-requires
ends_in_backslash-requires c =
    let long = ap length c.self.view_is in
    let all = length-pairs c.self.inside.keys.keys (texts c.self.inside.values.items) (c.self.invariant.same ∙ sym (length-texts c.self.inside.values.items)) in
    let last : c.in-Some.last.now ≡ get_or c.self.inside.values.items (length c.self.inside.values.items - 1) c.in-Some.last.now = c.in-Some.ensures.item.1 ∙ ap (λ (xs : List Element). get_or xs (length xs - 1) c.in-Some.last.now) c.deref.ensures.value in
    subst IsElement (sym last) (AreElements-get c.self.inside.values.items _ c.in-Some.last.now c.self.invariant.elements (omega (arith, length-texts c.self.inside.values.items, c.requires.some)))

pub returns-then-self-lt-MOST_DEPTH : goal.returns-then-self-lt-MOST_DEPTH
returns-then-self-lt-MOST_DEPTH c h =
    let long = ap length c.self.view_is in
    let same = c.self.invariant.same ∙ sym (length-texts c.self.inside.values.items) in
    let all = length-pairs c.self.inside.keys.keys (texts c.self.inside.values.items) (c.self.invariant.same ∙ sym (length-texts c.self.inside.values.items)) in
    let last : c.in-Some.last.now ≡ get_or c.self.inside.values.items (length c.self.inside.values.items - 1) c.in-Some.last.now = c.in-Some.ensures.item.1 ∙ ap (λ (xs : List Element). get_or xs (length xs - 1) c.in-Some.last.now) c.deref.ensures.value in
    let text : element_text c.in-Some.last.now ≡ get_or (texts c.self.inside.values.items) (length (texts c.self.inside.values.items) - 1) (element_text c.in-Some.last.now) =
    ap element_text last ∙ texts-get c.self.inside.values.items (length c.self.inside.values.items - 1) c.in-Some.last.now
    ∙ ap (λ n. get_or (texts c.self.inside.values.items) (n - 1) (element_text c.in-Some.last.now)) (sym (length-texts c.self.inside.values.items)) in
    inner_list (flat c.args.self.now) (element_text c.in-Some.last.now)
    (omega (arith, length-flat c.args.self.now, c.requires.some))
    (flat_last c.self.inside.keys.keys (texts c.self.inside.values.items) (element_text c.in-Some.last.now) (c.self.invariant.same ∙ sym (length-texts c.self.inside.values.items)) (omega (arith, c.requires.some)) text ∙ ap (λ es. get_or (flat es) (length (flat es) - 1) (element_text c.in-Some.last.now)) c.self.view_is)
    (sym c.ends_in_backslash.ensures ∙ not_true c.ends_in_backslash.result h) c.requires.within
