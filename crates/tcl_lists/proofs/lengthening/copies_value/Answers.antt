use Rattle.std.proofs.Common.{◌≡◌, ℕ, List, ◌++◌, ◌+◌, ◌-◌, Ok, sym, ◌∙◌, ap, subst, arith, rules, append_assoc}
use Rattle.tcl_words.specs.Outcomes.{Outcome, Gives, Refuses}
use Rattle.tcl_lists.specs.Lists.{list_value, copies}
use Rattle.tcl_lists.proofs.Copies.{copies_nothing, is_some, too_many, copies_first, copies_next, copies_end}
use Rattle.tcl_lists.proofs.lengthening.copies_value.Goals as goal

pub returns-then-is_empty : goal.returns-then-is_empty
returns-then-is_empty c = copies_nothing c.args.count c.args.words.now c.is_empty.result c.is_empty.ensures c.if-is_empty.true ∙ ap Ok (sym c.empty.ensures)

pub returns-then-count-gt-MOST_COPIES : goal.returns-then-count-gt-MOST_COPIES
returns-then-count-gt-MOST_COPIES c =
    let some = is_some c.args.words.now c.is_empty.result c.is_empty.ensures c.if-is_empty.false in
    subst (λ (o : Outcome). Refuses c.too_long.result o) (sym (too_many c.args.count c.args.words.now some (omega arith))) c.too_long.ensures

pub copies-init : goal.copies-init
copies-init c = ap (λ t. t ++ copies (c.args.count - 0) c.args.words.now) c.in_ok-made.ensures ∙ copies_first c.args.count c.args.words.now

pub returns-in_err-push_words : goal.returns-in_err-push_words
returns-in_err-push_words c =
    let rest = copies (c.args.count - (c.copies.counter + 1)) c.args.words.now in
    let whole = copies_next c.args.count c.copies.counter c.args.words.now c.copies.made _ c.copies-test.true c.copies.invariant in
    let told : Refuses c.in_err-push_words.field-0.0 (list_value (copies c.args.count c.args.words.now)) = subst (λ (t : List (List ℕ)). Refuses c.in_err-push_words.field-0.0 (list_value t)) whole (c.in_err-push_words.ensures.refused rest) in
    search rules

pub copies-preserved : goal.copies-preserved
copies-preserved c =
    let rest = copies (c.args.count - (c.copies.counter + 1)) c.args.words.now in
    ap (λ t. t ++ rest) c.in_ok-push_words.ensures.pushed ∙ (append_assoc c.copies.made c.args.words.now rest ∙ copies_next c.args.count c.copies.counter c.args.words.now c.copies.made _ c.copies-test.true c.copies.invariant)

pub returns : goal.returns
returns c =
    let made : c.copies.made ≡ copies c.args.count c.args.words.now = copies_end c.args.count c.copies.counter c.args.words.now c.copies.made _ c.copies-test.false c.copies.invariant in
    subst (λ (t : List (List ℕ)). Gives (λ value. value) c.list_value.result (list_value t)) made c.list_value.ensures
