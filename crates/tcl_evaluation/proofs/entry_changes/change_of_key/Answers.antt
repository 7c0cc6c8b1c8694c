use Rattle.std.proofs.Common.{◌∷◌, [], map, sym, subst}
use Rattle.tcl_commands.specs.Entries.{words_behind}
use Rattle.tcl_prepared.specs.Views.{seen_word}
use Rattle.tcl_text.proofs.Items.{one_item, two_items}
use Rattle.tcl_evaluation.specs.Hands.{AllEnd}
use Rattle.tcl_evaluation.proofs.HandCalling.{ends_one}
use Rattle.tcl_evaluation.proofs.entry_changes.change_of_key.Goals as goal

pub returns-in_ok-change-in-len1-clause-behind : goal.returns-in_ok-change-in-len1-clause-behind
returns-in_ok-change-in-len1-clause-behind c = λ p n names there.
    let style = c.args.tree.now.integers in
    let word = seen_word c.word-item.result in
    let end = c.in_ok-key-in-len1 in
    let is = one_item c.args.words.now c.word-item.result c.in-len1.len_at_least c.in-len1.len_below c.word-item.is in
    subst (λ ws. AllEnd style n (map seen_word ws) end.sums (words_behind c.in_ok-change-in-len1.change)) (sym is)
    (subst (λ ts. AllEnd style n (word ∷ []) end.sums ts) (sym c.in_ok-change-in-len1.ensures.behind)
    (ends_one style n word end.sums end.key (end.ensures p n names there)))

pub returns-in_ok-change-in-len2-clause-behind : goal.returns-in_ok-change-in-len2-clause-behind
returns-in_ok-change-in-len2-clause-behind c = λ p n names there.
    let style = c.args.tree.now.integers in
    let ends = c.in_ok-key-in-len2 in
    let is = two_items c.args.words.now c.first-item.result c.second-item.result c.in-len2.len_at_least c.in-len2.len_below c.first-item.is c.second-item.is in
    subst (λ ws. AllEnd style n (map seen_word ws) ends.sums (words_behind c.in_ok-change-in-len2.change)) (sym is)
    (subst (λ ts. AllEnd style n (seen_word c.first-item.result ∷ seen_word c.second-item.result ∷ []) ends.sums ts) (sym c.in_ok-change-in-len2.ensures.behind)
    (ends.ensures p n names there))
