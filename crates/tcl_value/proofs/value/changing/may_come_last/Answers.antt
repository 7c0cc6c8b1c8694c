use Rattle.std.proofs.Common.{◌≡◌, ◌∙◌, ap, sym, subst, arith, length, ◌-◌, get_or}
use Rattle.tcl_value.specs.Texts.{IsElement, element_text, texts, ends_in_backslash}
use Rattle.tcl_value.proofs.Weights.{AreElements-get, texts-get, length-texts}
use Rattle.tcl_value.proofs.Inner.{ends_write}
use Rattle.tcl_value.proofs.value.changing.may_come_last.Goals as goal

pub ends_in_backslash-requires : goal.ends_in_backslash-requires
ends_in_backslash-requires c =
    subst IsElement (sym c.in-Some.ensures.item.1) (AreElements-get c.args.elements.now _ c.in-Some.last.now c.requires (omega (arith, c.in-Some.ensures.item.3.0)))

pub returns-then-not-ends_in_backslash-clause-ends : goal.returns-then-not-ends_in_backslash-clause-ends
returns-then-not-ends_in_backslash-clause-ends c h =
    let xs = c.args.elements.now in
    let last = c.in-Some.last.now in
    let text : element_text last ≡ get_or (texts xs) (length (texts xs) - 1) (element_text last) =
    ap element_text c.in-Some.ensures.item.1 ∙ texts-get xs (length xs - 1) last ∙ ap (λ n. get_or (texts xs) (n - 1) (element_text last)) (sym (length-texts xs)) in
    ends_write (texts xs) (element_text last) (omega (arith, length-texts xs, c.in-Some.ensures.item.3.0)) ∙ ap ends_in_backslash (sym text) ∙ sym c.ends_in_backslash.ensures ∙ c.if-not-ends_in_backslash.true
