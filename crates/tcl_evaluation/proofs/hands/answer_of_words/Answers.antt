use Rattle.std.proofs.Common.{[], ◌∷◌, List, map, sym, subst}
use Rattle.tcl_prepared.specs.Views.{seen_word}
use Rattle.tcl_prepared.specs.declared.prepared.PreparedWord.{PreparedWord}
use Rattle.tcl_text.proofs.Items.{four_items, three_items, two_items}
use Rattle.tcl_evaluation.specs.Hands.{AllStand}
use Rattle.tcl_evaluation.proofs.HandCalling.{some_more}
use Rattle.tcl_evaluation.proofs.hands.answer_of_words.Goals as goal

pub returns-in_ok-b-in-len2 : goal.returns-in_ok-b-in-len2
returns-in_ok-b-in-len2 c =
    let frames = c.args.frames.now.frames in
    let texts = c.in_ok-a-in-len2.a ∷ c.in_ok-b-in-len2.b ∷ [] in
    let items = two_items c.args.words.now c.first-item-then-words-lt3.result c.second-item.result c.in-len2.len_at_least c.in-len2.len_below c.first-item-then-words-lt3.is c.second-item.is in
    let stand = subst (λ (ws : List PreparedWord). AllStand frames (map seen_word ws) texts) (sym items) (c.in_ok-a-in-len2.ensures, (c.in_ok-b-in-len2.ensures, tt)) in
    some_more c.answer_of-in-len2.result _ _ (λ v h. (texts, stand, h)) c.answer_of-in-len2.ensures

pub returns-in_ok-c-in-len3 : goal.returns-in_ok-c-in-len3
returns-in_ok-c-in-len3 c =
    let frames = c.args.frames.now.frames in
    let texts = c.in_ok-a-in-len3.a ∷ c.in_ok-b-in-len3.b ∷ c.in_ok-c-in-len3.c ∷ [] in
    let items = three_items c.args.words.now c.first-item-then-words-lt4.result c.second-item-then-words-lt4.result c.third-item.result c.in-len3.len_at_least c.in-len3.len_below c.first-item-then-words-lt4.is c.second-item-then-words-lt4.is c.third-item.is in
    let stand = subst (λ (ws : List PreparedWord). AllStand frames (map seen_word ws) texts) (sym items) (c.in_ok-a-in-len3.ensures, (c.in_ok-b-in-len3.ensures, (c.in_ok-c-in-len3.ensures, tt))) in
    some_more c.answer_of-in-len3.result _ _ (λ v h. (texts, stand, h)) c.answer_of-in-len3.ensures

pub returns-in_ok-d-in-len4 : goal.returns-in_ok-d-in-len4
returns-in_ok-d-in-len4 c =
    let frames = c.args.frames.now.frames in
    let texts = c.in_ok-a-in-len4.a ∷ c.in_ok-b-in-len4.b ∷ c.in_ok-c-in-len4.c ∷ c.in_ok-d-in-len4.d ∷ [] in
    let items = four_items c.args.words.now c.first-item-then-words-lt5.result c.second-item-then-words-lt5.result c.third-item-then-words-lt5.result c.fourth-item.result c.in-len4.len_at_least c.in-len4.len_below c.first-item-then-words-lt5.is c.second-item-then-words-lt5.is c.third-item-then-words-lt5.is c.fourth-item.is in
    let stand = subst (λ (ws : List PreparedWord). AllStand frames (map seen_word ws) texts) (sym items) (c.in_ok-a-in-len4.ensures, (c.in_ok-b-in-len4.ensures, (c.in_ok-c-in-len4.ensures, (c.in_ok-d-in-len4.ensures, tt)))) in
    some_more c.answer_of-in-len4.result _ _ (λ v h. (texts, stand, h)) c.answer_of-in-len4.ensures
