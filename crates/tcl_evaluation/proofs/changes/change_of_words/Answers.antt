use Rattle.std.proofs.Common.{◌∷◌, [], map, sym, subst}
use Rattle.tcl_commands.specs.Named.{words_of}
use Rattle.tcl_prepared.specs.Views.{seen_word}
use Rattle.tcl_text.proofs.Items.{one_item}
use Rattle.tcl_evaluation.specs.Hands.{AllEnd}
use Rattle.tcl_evaluation.proofs.HandCalling.{ends_one}
use Rattle.tcl_evaluation.proofs.changes.change_of_words.Goals as goal

pub returns-in_ok-change-in-len1-clause-words : goal.returns-in_ok-change-in-len1-clause-words
returns-in_ok-change-in-len1-clause-words c = λ p n names there.
    let style = c.args.tree.now.integers in
    let word = seen_word c.word-item.result in
    let is = one_item c.args.words.now c.word-item.result c.in-len1.len_at_least c.in-len1.len_below c.word-item.is in
    subst (λ ws. AllEnd style n (map seen_word ws) c.in_ok-value-in-len1.sums (words_of c.in_ok-change-in-len1.change)) (sym is)
    (subst (λ ts. AllEnd style n (word ∷ []) c.in_ok-value-in-len1.sums ts) (sym c.in_ok-change-in-len1.ensures.1)
    (ends_one style n word c.in_ok-value-in-len1.sums c.in_ok-value-in-len1.value (c.in_ok-value-in-len1.ensures p n names there)))
