use Rattle.std.proofs.Common.{ℕ, ◌+◌, ◌-◌, take, sym, ◌∙◌, ap}
use Rattle.std.specs.Str.{chars}
use Rattle.std.proofs.lemmas.Str.{chars-nil}
use Rattle.tcl_words.specs.Spans.{span}
use Rattle.tcl_strings.proofs.PartLemmas.{nothing_from, taken_from}
use Rattle.tcl_strings.proofs.spans.part.Goals as goal

pub returns-in-Before : goal.returns-in-Before
returns-in-Before c = chars-nil ∙ nothing_from c.args.first ∙ ap (λ p. span {X = ℕ} c.args.first p (chars c.args.text.now)) (sym c.in-Before.is)

pub returns-in-At : goal.returns-in-At
returns-in-At c =
    c.first_characters.ensures ∙ ap (λ k. take k (chars c.from-rest.result.now)) (c.saturating_sub.ensures ∙ ap (λ s. c.in-At.n + 1 - s) c.passed.ensures)
    ∙ ap (take _) c.from-rest.ensures ∙ taken_from c.args.first (c.in-At.n + 1) (chars c.args.text.now)
    ∙ ap (λ p. span {X = ℕ} c.args.first p (chars c.args.text.now)) (sym c.in-At.is)
