use Rattle.std.proofs.Common.{ℕ, List, ◌++◌, sym, subst}
use Rattle.std.specs.Str.{chars}
use Rattle.tcl_words.specs.Outcomes.{Gives, answer_text}
use Rattle.tcl_words.specs.Limits.{limited}
use Rattle.tcl_words.specs.Spans.{before, behind, span}
use Rattle.tcl_characters.specs.Texts.{text_of}
use Rattle.tcl_strings.proofs.CommandLemmas.{where_empty, no_bytes}
use Rattle.tcl_strings.proofs.parts.replaced.Goals as goal

pub returns-then-is_empty : goal.returns-then-is_empty
returns-then-is_empty c =
    let cs = span {X = ℕ} c.args.first c.args.last (chars c.args.text.now) in
    let changed = text_of (before c.args.first (chars c.args.text.now)) ++ c.args.new.now ++ text_of (behind c.args.last (chars c.args.text.now)) in
    subst (λ (t : List ℕ). Gives answer_text c.text_answer.result (limited t))
    (sym (where_empty cs c.span.result.now c.args.text.now changed c.span.ensures.characters (no_bytes c.span.result.now c.is_empty.result c.is_empty.ensures c.if-is_empty.true)))
    c.text_answer.ensures
