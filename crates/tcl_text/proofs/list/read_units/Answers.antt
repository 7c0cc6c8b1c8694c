use Rattle.std.proofs.Common.{rules, ◌∙◌, ◌++◌, sym, ap, string_bytes}
use Rattle.tcl_text.specs.Reading.{stop_test}
use Rattle.tcl_text.specs.Lists.{units, with_meaning}
use Rattle.tcl_text.proofs.Steps.{units_begin, units_on, units_done, on_shorter}
use Rattle.tcl_text.proofs.list.read_units.Goals as goal

pub returns-in_default : goal.returns-in_default
returns-in_default c =
    let begin = units_begin c.args.stop c.args.text.now c.split_plain.result.0.now c.split_plain.result.1.now c.split_plain.ensures.plain c.split_plain.ensures.rest in
    units_done c.args.stop c.args.text.now c.split_plain.result.1.now c.split_plain.result.0.now begin.1 begin.0 c.in_default.ensures ∙ (λ i. (sym c.in_ok-new.ensures i, c.split_plain.result.1.now))

pub sequences-init : goal.sequences-init
sequences-init c =
    let begin = units_begin c.args.stop c.args.text.now c.split_plain.result.0.now c.split_plain.result.1.now c.split_plain.ensures.plain c.split_plain.ensures.rest in
    (search rules, begin.0, ap (λ z. with_meaning z (units (stop_test c.args.stop) c.split_plain.result.1.now 0)) c.in_ok-meaning.ensures.ok ∙ begin.1)

pub sequences-smaller : goal.sequences-smaller
sequences-smaller c =
    on_shorter c.args.stop c.sequences.rest.now c.in-Some-strip_mark.after.now c.read_escape-character.result.1.now c.split_plain-in-Some-strip_mark.result.1.now
    c.in-Some-strip_mark.ensures c.read_escape-character.ensures.rest c.split_plain-in-Some-strip_mark.ensures.rest

pub sequences-preserved : goal.sequences-preserved
sequences-preserved c =
    let joined = c.in_ok-push_str.ensures.bytes ∙ ap (λ z. z ++ c.split_plain-in-Some-strip_mark.result.0.now) c.in_ok-push.ensures.bytes in
    let begin = units_begin c.args.stop c.read_escape-character.result.1.now c.split_plain-in-Some-strip_mark.result.0.now c.split_plain-in-Some-strip_mark.result.1.now c.split_plain-in-Some-strip_mark.ensures.plain c.split_plain-in-Some-strip_mark.ensures.rest in
    let on = units_on c.args.stop c.args.text.now c.sequences.rest.now c.in-Some-strip_mark.after.now c.read_escape-character.result.1.now c.split_plain-in-Some-strip_mark.result.0.now c.split_plain-in-Some-strip_mark.result.1.now
    (string_bytes c.sequences.meaning) _ c.sequences.invariant.2 c.in-Some-strip_mark.ensures c.read_escape-character.ensures.meaning c.read_escape-character.ensures.rest
    c.split_plain-in-Some-strip_mark.ensures.plain c.split_plain-in-Some-strip_mark.ensures.rest in
    (search rules, begin.0, ap (λ z. with_meaning z (units (stop_test c.args.stop) c.split_plain-in-Some-strip_mark.result.1.now 0)) joined ∙ on)

pub returns : goal.returns
returns c =
    units_done c.args.stop c.args.text.now c.sequences.rest.now (string_bytes c.sequences.meaning) c.sequences.invariant.2 c.sequences.invariant.1 c.in_default-strip_mark.ensures
    ∙ (λ i. (sym c.in_ok-from_string.ensures i, c.sequences.rest.now))
