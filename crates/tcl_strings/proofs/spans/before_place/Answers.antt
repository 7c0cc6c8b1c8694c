use Rattle.std.proofs.Common.{ℕ, sym, ◌∙◌, ap}
use Rattle.std.specs.Str.{chars}
use Rattle.std.proofs.lemmas.Str.{chars-nil}
use Rattle.tcl_words.specs.Spans.{before}
use Rattle.tcl_strings.proofs.spans.before_place.Goals as goal

pub returns-in-Before : goal.returns-in-Before
returns-in-Before c = chars-nil ∙ ap (λ p. before {X = ℕ} p (chars c.args.text.now)) (sym c.in-Before.is)
