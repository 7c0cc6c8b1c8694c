use Rattle.std.proofs.Common.{◌∙◌, sym, ap, refl, Ok, Err, None}
use Rattle.tcl_text.specs.declared.list.ListFault.TheVariants.{AfterBrace, AfterQuote}
use Rattle.tcl_text.specs.Lists.{after_quote}
use Rattle.tcl_text.proofs.Steps.{braced_read, quoted_read, quote_missing, bare_read}
use Rattle.tcl_text.proofs.list.read_element.Goals as goal

pub returns-in_default-split_braced : goal.returns-in_default-split_braced
returns-in_default-split_braced c =
    braced_read c.args.text.now c.in-Some.inside.now None c.in-Some.ensures c.in_default-split_braced.ensures

pub returns-then-not-is_end : goal.returns-then-not-is_end
returns-then-not-is_end c =
    braced_read c.args.text.now c.in-Some.inside.now _ c.in-Some.ensures c.in-Some-split_braced.ensures ∙ rw (sym c.if-not-is_end.ensures) (ap (λ z. Err (AfterBrace z)) (sym c.in_ok-shown.ensures))

pub returns-in-Some : goal.returns-in-Some
returns-in-Some c =
    braced_read c.args.text.now c.in-Some.inside.now _ c.in-Some.ensures c.in-Some-split_braced.ensures ∙ rw (sym c.if-not-is_end.ensures) (λ i. Ok (sym c.in_ok-new.ensures i, c.in-Some-split_braced.rest.now))

pub returns-in_default-strip_mark-2 : goal.returns-in_default-strip_mark-2
returns-in_default-strip_mark-2 c =
    quoted_read c.args.text.now c.in-Some-strip_mark.inside.now c.in_ok-element.element c.in_ok-element.rest.now c.in-Some-strip_mark.ensures c.in_ok-element.ensures
    ∙ quote_missing c.in-Some-strip_mark.inside.now c.in_ok-element.element c.in_ok-element.rest.now c.in_ok-element.ensures c.in_default-strip_mark-2.ensures

pub returns-then-not-is_end-2 : goal.returns-then-not-is_end-2
returns-then-not-is_end-2 c =
    quoted_read c.args.text.now c.in-Some-strip_mark.inside.now c.in_ok-element.element c.in_ok-element.rest.now c.in-Some-strip_mark.ensures c.in_ok-element.ensures
    ∙ ap (after_quote c.in_ok-element.element) c.in-Some-strip_mark-2.ensures
    ∙ rw (sym c.if-not-is_end-2.ensures) (ap (λ z. Err (AfterQuote z)) (sym c.in_ok-shown-2.ensures))

pub returns-in-Some-strip_mark : goal.returns-in-Some-strip_mark
returns-in-Some-strip_mark c =
    quoted_read c.args.text.now c.in-Some-strip_mark.inside.now c.in_ok-element.element c.in_ok-element.rest.now c.in-Some-strip_mark.ensures c.in_ok-element.ensures
    ∙ ap (after_quote c.in_ok-element.element) c.in-Some-strip_mark-2.ensures
    ∙ rw (sym c.if-not-is_end-2.ensures) refl

pub returns : goal.returns
returns c = bare_read c.args.text.now _ c.in_default.ensures c.in_default-strip_mark.ensures c.in_ok-read_units.ensures
