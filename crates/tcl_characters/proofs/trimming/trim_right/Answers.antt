use Rattle.std.proofs.Common.{◌≡◌, ◌++◌, ◌∙◌, length, sym, ap}
use Rattle.std.specs.Char.{encode_utf8}
use Rattle.std.specs.Str.{chars}
use Rattle.tcl_characters.specs.Texts.{text_of}
use Rattle.tcl_characters.proofs.Ends.{end_stops, end_goes, end_ends}
use Rattle.tcl_characters.proofs.trimming.trim_right.Goals as goal

pub returns-in_default : goal.returns-in_default
returns-in_default c =
    end_ends (chars c.args.set.now) c.letters.rest.now (ap length (sym c.chars-characters.ensures.rest) ∙ c.in_default.ensures.steps.0) ∙ ap text_of (sym c.letters.invariant.1)

pub returns-then-not-is_among : goal.returns-then-not-is_among
returns-then-not-is_among c =
    let front = c.as_str-front.result.now in
    let ends : c.letters.rest.now ≡ front ++ encode_utf8 c.in-Some.last = sym c.chars-characters.ensures.rest ∙ c.in-Some.ensures.steps ∙ ap (λ t. t ++ encode_utf8 c.in-Some.last) (sym c.as_str-front.ensures) in
    end_stops (chars c.args.set.now) c.letters.rest.now front c.in-Some.last c.letters.invariant.0 c.as_str-front.utf8 ends (sym c.is_among.ensures ∙ c.if-not-is_among.true) ∙ ap text_of (sym c.letters.invariant.1)

pub letters-preserved : goal.letters-preserved
letters-preserved c =
    let front = c.as_str-front.result.now in
    let ends : c.letters.rest.now ≡ front ++ encode_utf8 c.in-Some.last = sym c.chars-characters.ensures.rest ∙ c.in-Some.ensures.steps ∙ ap (λ t. t ++ encode_utf8 c.in-Some.last) (sym c.as_str-front.ensures) in (
      c.as_str-front.utf8,
      c.letters.invariant.1 ∙ end_goes (chars c.args.set.now) c.letters.rest.now front c.in-Some.last c.letters.invariant.0 c.as_str-front.utf8 ends (sym c.is_among.ensures ∙ c.if-not-is_among.false),
    )
