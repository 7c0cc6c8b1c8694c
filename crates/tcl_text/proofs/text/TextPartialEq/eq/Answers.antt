use Rattle.std.proofs.Common.{◌≡◌, ◌≤◌, length, true, sym, ap, ◌∙◌, arith}
use Rattle.std.proofs.lemmas.Bool.Decides.{nat_tests}
use Rattle.std.specs.Cmp.Lexicographic.{bytes_decides}
use Rattle.std.specs.String.{string_bytes}
use Rattle.tcl_text.specs.declared.text.Shared.{Shared}
use Rattle.tcl_text.proofs.Eights.{same_short}
use Rattle.tcl_text.proofs.text.TextPartialEq.eq.Goals as goal

pub returns-then-text-le8 : goal.returns-then-text-le8
returns-then-text-le8 c =
    let text = string_bytes c.self.inside.shared.value.text in
    let others = string_bytes c.other.inside.shared.value.text in
    let is : c.as_str-text.result.now ≡ text = c.as_str-text.ensures ∙ sym c.self.view_is in
    let other_is : c.as_str-others.result.now ≡ others =
    c.as_str-others.ensures ∙ sym c.other.view_is
    in
    let len : length text ≡ length others =
    ap length (sym is) ∙ c.if-text-others.false ∙ ap length other_is
    in
    let short : length text ≤ 8 = omega (arith, c.if-text-le8.true, ap length is) in
    let front =
    sym (ap (λ (s : Shared). s.front) c.deref.ensures)
    ∙ c.if-deref.false
    ∙ ap (λ (s : Shared). s.front) c.deref-2.ensures
    in
    let same =
    same_short text others _ _ c.self.invariant.0 c.other.invariant.0 len short front
    in
    let equal =
    (bytes_decides c.args.self.now c.args.other.now).1
    (sym c.self.view_is ∙ same ∙ c.other.view_is)
    in
    grind (arith, nat_tests) ∙ sym equal
