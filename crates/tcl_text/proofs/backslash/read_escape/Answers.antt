use Rattle.std.proofs.Common.{arith, [], ◌∙◌, sym, ap, refl, length}
use Rattle.std.specs.Char.{encode_utf8}
use Rattle.std.proofs.lemmas.Str.{encode_ascii}
use Rattle.std.proofs.lemmas.Bool.Decides.{nat_tests}
use Rattle.tcl_text.specs.Backslash.{character}
use Rattle.tcl_text.proofs.Escapes.{letter, longer, begins, begins_with, lone, nothing_left, other, octal, octal_is_ascii}
use Rattle.tcl_text.proofs.backslash.read_escape.Goals as goal

pub returns-in_default : goal.returns-in_default
returns-in_default c =
    let none = nothing_left _ (sym (ap length c.chars-chars.ensures.rest) ∙ c.in_default.ensures.steps.0.0) in
    let r = lone _ none in
    record { meaning = r.meaning_is; rest = r.rest_is }

pub returns-then-is_digit : goal.returns-then-is_digit
returns-then-is_digit c =
    let whole = begins [] _ _ _ _ _ c.chars-chars.ensures.rest c.in-Some.ensures.steps.0 c.as_str-rest.ensures in
    let digit = c.if-is_digit.ensures.value in
    let small = octal_is_ascii _ (sym digit) in
    let r = octal _ _ _ whole small (sym digit) in
    record {
      meaning = ap encode_utf8 (c.character.ensures ∙ ap character c.read_number-value.ensures.value) ∙ r.meaning_is;
      rest = c.read_number-value.ensures.rest ∙ r.rest_is;
    }

pub returns-in_default-first : goal.returns-in_default-first
returns-in_default-first c =
    let whole = begins [] _ _ _ _ _ c.chars-chars.ensures.rest c.in-Some.ensures.steps.0 c.as_str-rest.ensures in
    let r = other _ _ c.in-Some.first whole (λ itself. grind (arith, nat_tests, c.if-is_digit.ensures.value)) in
    record { meaning = r.meaning_is; rest = r.rest_is }

pub returns-in-a : goal.returns-in-a
returns-in-a c =
    let whole = begins [] _ _ _ _ _ c.chars-chars.ensures.rest c.in-Some.ensures.steps.0 c.as_str-rest.ensures in
    let r = letter _ _ 97 7 (begins_with _ _ _ _ whole c.in-a.is) (omega arith) (omega arith) refl in
    record { meaning = r.meaning_is; rest = r.rest_is }

pub returns-in-b : goal.returns-in-b
returns-in-b c =
    let whole = begins [] _ _ _ _ _ c.chars-chars.ensures.rest c.in-Some.ensures.steps.0 c.as_str-rest.ensures in
    let r = letter _ _ 98 8 (begins_with _ _ _ _ whole c.in-b.is) (omega arith) (omega arith) refl in
    record { meaning = r.meaning_is; rest = r.rest_is }

pub returns-in-f : goal.returns-in-f
returns-in-f c =
    let whole = begins [] _ _ _ _ _ c.chars-chars.ensures.rest c.in-Some.ensures.steps.0 c.as_str-rest.ensures in
    let r = letter _ _ 102 12 (begins_with _ _ _ _ whole c.in-f.is) (omega arith) (omega arith) refl in
    record { meaning = r.meaning_is; rest = r.rest_is }

pub returns-in-n : goal.returns-in-n
returns-in-n c =
    let whole = begins [] _ _ _ _ _ c.chars-chars.ensures.rest c.in-Some.ensures.steps.0 c.as_str-rest.ensures in
    let r = letter _ _ 110 10 (begins_with _ _ _ _ whole c.in-n.is) (omega arith) (omega arith) refl in
    record { meaning = r.meaning_is; rest = r.rest_is }

pub returns-in-r : goal.returns-in-r
returns-in-r c =
    let whole = begins [] _ _ _ _ _ c.chars-chars.ensures.rest c.in-Some.ensures.steps.0 c.as_str-rest.ensures in
    let r = letter _ _ 114 13 (begins_with _ _ _ _ whole c.in-r.is) (omega arith) (omega arith) refl in
    record { meaning = r.meaning_is; rest = r.rest_is }

pub returns-in-t : goal.returns-in-t
returns-in-t c =
    let whole = begins [] _ _ _ _ _ c.chars-chars.ensures.rest c.in-Some.ensures.steps.0 c.as_str-rest.ensures in
    let r = letter _ _ 116 9 (begins_with _ _ _ _ whole c.in-t.is) (omega arith) (omega arith) refl in
    record { meaning = r.meaning_is; rest = r.rest_is }

pub returns-in-v : goal.returns-in-v
returns-in-v c =
    let whole = begins [] _ _ _ _ _ c.chars-chars.ensures.rest c.in-Some.ensures.steps.0 c.as_str-rest.ensures in
    let r = letter _ _ 118 11 (begins_with _ _ _ _ whole c.in-v.is) (omega arith) (omega arith) refl in
    record { meaning = r.meaning_is; rest = r.rest_is }

pub returns-in-10 : goal.returns-in-10
returns-in-10 c =
    let whole = begins [] _ _ _ _ _ c.chars-chars.ensures.rest c.in-Some.ensures.steps.0 c.as_str-rest.ensures in
    let r = longer _ _ _ _ 10 _ (begins_with _ _ _ _ whole c.in-10.is) (omega arith) refl (encode_ascii 32 (omega arith)) c.skip_blanks.ensures.rest in
    record { meaning = r.meaning_is; rest = r.rest_is }

pub returns-in-x : goal.returns-in-x
returns-in-x c =
    let whole = begins [] _ _ _ _ _ c.chars-chars.ensures.rest c.in-Some.ensures.steps.0 c.as_str-rest.ensures in
    let r = longer _ _ _ _ 120 _ (begins_with _ _ _ _ whole c.in-x.is) (omega arith) refl c.read_hexadecimal.ensures.meaning c.read_hexadecimal.ensures.rest in
    record { meaning = r.meaning_is; rest = r.rest_is }

pub returns-in-u : goal.returns-in-u
returns-in-u c =
    let whole = begins [] _ _ _ _ _ c.chars-chars.ensures.rest c.in-Some.ensures.steps.0 c.as_str-rest.ensures in
    let r = longer _ _ _ _ 117 _ (begins_with _ _ _ _ whole c.in-u.is) (omega arith) refl c.read_hexadecimal-in-u.ensures.meaning c.read_hexadecimal-in-u.ensures.rest in
    record { meaning = r.meaning_is; rest = r.rest_is }

pub returns-in-U : goal.returns-in-U
returns-in-U c =
    let whole = begins [] _ _ _ _ _ c.chars-chars.ensures.rest c.in-Some.ensures.steps.0 c.as_str-rest.ensures in
    let r = longer _ _ _ _ 85 _ (begins_with _ _ _ _ whole c.in-U.is) (omega arith) refl c.read_hexadecimal-in-U.ensures.meaning c.read_hexadecimal-in-U.ensures.rest in
    record { meaning = r.meaning_is; rest = r.rest_is }
