use Rattle.std.proofs.Common.{◌≡◌, ◌++◌, ◌∙◌, sym, ap}
use Rattle.std.specs.Char.{encode_utf8}
use Rattle.std.specs.Str.{chars}
use Rattle.tcl_characters.specs.Texts.{text_of, trim_end}
use Rattle.tcl_characters.proofs.Ends.{start_stops, end_stops}
use Rattle.tcl_characters.proofs.Trims.{chars_of_start}
use Rattle.tcl_lists.specs.Joining.{white}
use Rattle.tcl_calls.proofs.scripts.has_full_ends.Goals as goal

pub returns-then-is_past_white : goal.returns-then-is_past_white
returns-then-is_past_white c = λ h.
    let text = c.args.text.now in
    let set = chars white in
    let front = c.as_str-front.result.now in
    let starts = start_stops set text _ c.in-Some.first c.utf8.text (sym c.chars-letters.ensures.rest ∙ c.in-Some.ensures.steps.0) (c.is_past_white.ensures c.if-is_past_white.true) in
    let ends : text ≡ front ++ encode_utf8 c.in-Some-next_back.last = sym c.chars-letters-2.ensures.rest ∙ c.in-Some-next_back.ensures.steps ∙ ap (λ t. t ++ encode_utf8 c.in-Some-next_back.last) (sym c.as_str-front.ensures) in
    let stops = end_stops set text front c.in-Some-next_back.last c.utf8.text c.as_str-front.utf8 ends (c.is_past_white-then-is_past_white.ensures h) in
    sym (ap (λ cs. text_of (trim_end set cs)) (chars_of_start set text text c.utf8.text starts)) ∙ sym stops
