use Rattle.std.proofs.Common.{◌∙◌, length, sym, ap}
use Rattle.std.specs.Str.{chars}
use Rattle.tcl_characters.specs.Texts.{text_of, trim_start}
use Rattle.tcl_characters.proofs.Ends.{start_stops, start_goes, start_ends}
use Rattle.tcl_characters.proofs.trimming.trim_left.Goals as goal

pub returns-in_default : goal.returns-in_default
returns-in_default c =
    start_ends (chars c.args.set.now) c.letters.rest.now (ap length (sym c.chars-characters.ensures.rest) ∙ c.in_default.ensures.steps.0.0) ∙ ap text_of (sym c.letters.invariant.1)

pub returns-then-not-is_among : goal.returns-then-not-is_among
returns-then-not-is_among c =
    start_stops (chars c.args.set.now) c.letters.rest.now _ c.in-Some.first c.letters.invariant.0 (sym c.chars-characters.ensures.rest ∙ c.in-Some.ensures.steps.0) (sym c.is_among.ensures ∙ c.if-not-is_among.true) ∙ ap text_of (sym c.letters.invariant.1)

pub letters-preserved : goal.letters-preserved
letters-preserved c = (
  c.as_str-rest.utf8,
  c.letters.invariant.1
      ∙ start_goes (chars c.args.set.now) c.letters.rest.now _ c.in-Some.first c.letters.invariant.0 (sym c.chars-characters.ensures.rest ∙ c.in-Some.ensures.steps.0) (sym c.is_among.ensures ∙ c.if-not-is_among.false)
      ∙ ap (λ t. trim_start (chars c.args.set.now) (chars t)) (sym c.as_str-rest.ensures),
)
