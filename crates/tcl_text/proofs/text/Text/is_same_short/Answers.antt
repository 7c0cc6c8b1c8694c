use Rattle.std.proofs.Common.{◌≡◌, ◌≤◌, length, sym, ap, ◌∙◌, arith}
use Rattle.std.proofs.lemmas.Bool.Decides.{nat_tests}
use Rattle.std.specs.String.{string_bytes}
use Rattle.tcl_text.specs.declared.text.Shared.{Shared}
use Rattle.tcl_text.proofs.Eights.{same_short}
use Rattle.tcl_text.proofs.text.Text.is_same_short.Goals as goal

pub returns : goal.returns
returns c = λ least.
    let text = string_bytes c.self.inside.shared.value.text in
    let others = string_bytes c.other.inside.shared.value.text in
    let is : c.as_str-text.result.now ≡ text = c.as_str-text.ensures ∙ sym c.self.view_is in
    let other_is : c.as_str-others.result.now ≡ others = c.as_str-others.ensures ∙ sym c.other.view_is in
    let len : length text ≡ length others = ap length (sym is) ∙ c.if-text-others.false ∙ ap length other_is in
    let short : length text ≤ 8 = grind (arith, nat_tests, least, ap length is) in
    let front = sym (ap (λ (s : Shared). s.front) c.deref.ensures) ∙ c.if-deref.false ∙ ap (λ (s : Shared). s.front) c.deref-2.ensures in
    sym c.self.view_is ∙ same_short text others _ _ c.self.invariant.0 c.other.invariant.0 len short front ∙ c.other.view_is
