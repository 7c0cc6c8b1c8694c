use Rattle.std.proofs.Common.{ℕ, length, sym, ◌∙◌, ap}
use Rattle.std.specs.Str.{chars}
use Rattle.std.proofs.lemmas.Str.{chars-nil}
use Rattle.tcl_words.specs.Spans.{up_to}
use Rattle.tcl_strings.proofs.spans.bytes_up_to.Goals as goal

pub returns-in-Before-clause-front : goal.returns-in-Before-clause-front
returns-in-Before-clause-front c = chars-nil ∙ ap (λ p. up_to {X = ℕ} p (chars c.args.text.now)) (sym c.in-Before.is)

pub returns-in-Before-clause-single : goal.returns-in-Before-clause-single
returns-in-Before-clause-single c = ap length chars-nil
