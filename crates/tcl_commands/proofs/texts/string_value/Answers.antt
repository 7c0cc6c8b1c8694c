use Rattle.std.proofs.Common.{ℕ, List, sym, subst}
use Rattle.tcl_strings.specs.Subcommands.{string_of}
use Rattle.tcl_text.proofs.Items.{three_items, two_items}
use Rattle.tcl_words.specs.Outcomes.{Gives}
use Rattle.tcl_commands.proofs.texts.string_value.Goals as goal

pub returns-in-len2 : goal.returns-in-len2
returns-in-len2 c =
    subst (λ (xs : List (List ℕ)). Gives (λ (value : List ℕ). value) c.answer_of_two.result (string_of c.args.style xs))
    (sym (two_items c.args.args.now c.first-item.result c.second-item.result c.in-len2.len_at_least c.in-len2.len_below c.first-item.is c.second-item.is)) c.answer_of_two.ensures

pub returns-in-len3 : goal.returns-in-len3
returns-in-len3 c =
    subst (λ (xs : List (List ℕ)). Gives (λ (value : List ℕ). value) c.answer_of_three.result (string_of c.args.style xs))
    (sym (three_items c.args.args.now c.first-item-then-args-lt4.result c.second-item-then-args-lt4.result c.third-item.result c.in-len3.len_at_least c.in-len3.len_below c.first-item-then-args-lt4.is c.second-item-then-args-lt4.is c.third-item.is)) c.answer_of_three.ensures
