use Rattle.std.proofs.Common.{◌≡◌, ℕ, List, ◌∷◌, drop, length, sym, ap, ◌∙◌}
use Rattle.std.specs.Prelude.{take, ◌-◌}
use Rattle.tcl_commands.proofs.Linking.{one_front}
use Rattle.tcl_commands.proofs.DictCalls.{change_acts, no_word, none_acts, words_acts}
use Rattle.tcl_commands.proofs.dicts.dict.Goals as goal

pub returns-in-empty-clause-acts : goal.returns-in-empty-clause-acts
returns-in-empty-clause-acts c =
    none_acts c.args.tree.now c.dict_of_words.new.tree c.args.place c.args.args.now c.dict_of_words.result (no_word c.args.args.now c.in-empty.len_below) c.dict_of_words.ensures.acts

pub returns-in-Some-clause-acts : goal.returns-in-Some-clause-acts
returns-in-Some-clause-acts c =
    let word = c.as_str.result.now in
    let more = take (length c.args.args.now - 1) (drop 1 c.args.args.now) in
    let args : c.args.args.now ≡ word ∷ more =
    one_front c.args.args.now c.word-item.result c.in-len1-up.len_at_least c.word-item.is ∙ ap (λ (x : List ℕ). x ∷ more) (sym (c.as_str.ensures ∙ c.in_ok-word-in-len1-up.ensures)) in
    change_acts c.args.tree.now c.make_change.new.tree c.args.place c.args.args.now c.make_change.result word more c.named.result args c.named.ensures.listed c.in-Some.change c.in-Some.is c.make_change.ensures.acts

pub returns-clause-acts : goal.returns-clause-acts
returns-clause-acts c =
    let word = c.as_str.result.now in
    let more = take (length c.args.args.now - 1) (drop 1 c.args.args.now) in
    let args : c.args.args.now ≡ word ∷ more =
    one_front c.args.args.now c.word-item.result c.in-len1-up.len_at_least c.word-item.is ∙ ap (λ (x : List ℕ). x ∷ more) (sym (c.as_str.ensures ∙ c.in_ok-word-in-len1-up.ensures)) in
    words_acts c.args.tree.now c.dict_of_words-in-None.new.tree c.args.place c.args.args.now c.dict_of_words-in-None.result word more c.named.result args c.named.ensures.listed c.in-None.is c.dict_of_words-in-None.ensures.acts
