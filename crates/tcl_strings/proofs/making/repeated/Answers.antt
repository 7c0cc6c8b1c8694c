use Rattle.std.proofs.Common.{ℕ, List, ◌/◌, length, refl, sym, subst, arith}
use Rattle.std.specs.declared.result.Result.{Result}
use Rattle.tcl_words.specs.Outcomes.{Gives, Refuses, answer_text}
use Rattle.tcl_words.specs.Limits.{limited}
use Rattle.tcl_words.proofs.WordLemmas.{limited_past}
use Rattle.tcl_characters.specs.Texts.{copies}
use Rattle.tcl_text.proofs.Emptiness.{is_filled}
use Rattle.tcl_strings.proofs.CommandLemmas.{copies_of_empty, length-copies, too_many}
use Rattle.tcl_strings.proofs.making.repeated.Goals as goal

pub returns-then-is_empty : goal.returns-then-is_empty
returns-then-is_empty c =
    subst (λ (t : List ℕ). Gives answer_text c.text_answer.result (limited t)) (sym (copies_of_empty c.args.count c.args.text.now c.is_empty.result c.is_empty.ensures c.if-is_empty.true)) c.text_answer.ensures

pub returns-then-count-most : goal.returns-then-count-most
returns-then-count-most c =
    let some = is_filled c.args.text.now c.is_empty.result c.is_empty.ensures c.if-is_empty.false in
    let size = length-copies c.args.count c.args.text.now in
    let many = too_many c.args.count (length c.args.text.now) (16777216 / length c.args.text.now) some refl (omega arith) in
    subst (λ (o : Result (List ℕ) (List ℕ)). Refuses c.too_long.result o) (sym (limited_past (copies c.args.count c.args.text.now) (omega arith))) c.too_long.ensures
