use Rattle.std.proofs.Common.{◌≡◌, ◌<◌, ◌∙◌, [], length, sym, ap, arith}
use Rattle.std.proofs.lemmas.Bool.Decides.{nat_tests}
use Rattle.tcl_glob.proofs.Letters.{no_letter}
use Rattle.tcl_glob.specs.Patterns.{letters}
use Rattle.tcl_characters.specs.Order.{order}
use Rattle.tcl_characters.proofs.LetterSteps.{some_letter}
use Rattle.tcl_characters.proofs.order.compare.Goals as goal

pub returns-then-is_empty : goal.returns-then-is_empty
returns-then-is_empty c =
    let empty : length c.letters.right.now ≡ 0 = grind (arith, nat_tests, c.is_empty.ensures, c.if-is_empty.true) in
    sym (c.letters.invariant.2 ∙ ap (λ cs. order cs (letters c.args.nocase c.letters.right.now)) c.in_default.ensures.letters ∙ ap (order []) (no_letter c.args.nocase c.letters.right.now empty))

pub returns-else-is_empty : goal.returns-else-is_empty
returns-else-is_empty c =
    let filled : 0 < length c.letters.right.now = grind (arith, nat_tests, c.is_empty.ensures, c.if-is_empty.false) in
    let first = some_letter c.args.nocase c.letters.right.now c.letters.invariant.1 filled in
    sym (c.letters.invariant.2 ∙ ap (λ cs. order cs (letters c.args.nocase c.letters.right.now)) c.in_default.ensures.letters ∙ ap (order []) first.2)
