use Rattle.std.proofs.Common.{length, sym, ap, ◌∙◌}
use Rattle.std.proofs.lemmas.Str.{chars-IsAscii}
use Rattle.std.specs.Str.{chars}
use Rattle.tcl_text.specs.declared.text.Shared.{Shared}
use Rattle.tcl_text.proofs.text.Text.known_count.Goals as goal

pub returns-then-deref : goal.returns-then-deref
returns-then-deref c =
    let marked = ap (λ (s : Shared). s.is_ascii) (sym c.deref.ensures) ∙ c.if-deref.true in
    let ascii = c.self.invariant.1 marked in
    c.len.ensures
    ∙ ap length (sym c.self.view_is ∙ sym (chars-IsAscii _ ascii))
    ∙ ap (λ text. length (chars text)) c.self.view_is
