use Rattle.std.proofs.Common.{arith, ap, ◌∙◌, ◌≡◌, ◌-◌, get_or, []}
use Rattle.std.proofs.lemmas.Bool.Decides.{nat_tests}
use Rattle.tcl_value.specs.Texts.{element_text}
use Rattle.tcl_value.proofs.InsideDicts.{text_of, ends_last, ends_before, ends_alone}
use Rattle.tcl_value.proofs.entries.Entries.ends_in_backslash_without.Goals as goal

pub returns-then-index-last : goal.returns-then-index-last
returns-then-index-last c =
    let v = element_text c.value.result.now in
    let many = c.len-last.ensures in
    c.ends_in_backslash.ensures
    ∙ ends_last c.args.self.now c.args.index v (omega arith) (c.value.ensures.text ∙ ap (λ n. text_of (get_or c.args.self.now (n - 1) ([], v))) many)

pub returns-then-last-gt0 : goal.returns-then-last-gt0
returns-then-last-gt0 c =
    let v = element_text c.value-then-last-gt0.result.now in
    let many = c.len-last.ensures in
    let last : (c.len-last.result - 1) - 1 ≡ c.args.index - 1 = omega (arith, many, c.requires) in
    c.ends_in_backslash-then-last-gt0.ensures
    ∙ ends_before c.args.self.now c.args.index v (omega (arith, many, c.requires)) (omega (arith, many, c.requires)) (c.value-then-last-gt0.ensures.text ∙ ap (λ n. text_of (get_or c.args.self.now n ([], v))) last)

pub returns-else-last-gt0 : goal.returns-else-last-gt0
returns-else-last-gt0 c =
    let many = c.len-last.ensures in
    let none = c.if-last-gt0.false in
    (grind (arith, nat_tests)) ∙ ends_alone c.args.self.now c.args.index c.requires (omega (arith, many, none, c.requires))
