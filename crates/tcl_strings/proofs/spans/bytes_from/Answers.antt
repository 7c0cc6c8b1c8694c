use Rattle.std.proofs.Common.{ℕ, sym, ◌∙◌, ap}
use Rattle.std.specs.Str.{chars}
use Rattle.std.proofs.lemmas.Str.{chars-nil}
use Rattle.tcl_words.specs.Spans.{from}
use Rattle.tcl_strings.proofs.spans.bytes_from.Goals as goal

pub returns-in-Beyond : goal.returns-in-Beyond
returns-in-Beyond c = chars-nil ∙ ap (λ p. from {X = ℕ} p (chars c.args.text.now)) (sym c.in-Beyond.is)
