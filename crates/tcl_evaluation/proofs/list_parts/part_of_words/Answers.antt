use Rattle.std.proofs.Common.{[], ◌∷◌, List, map, sym, subst}
use Rattle.tcl_prepared.specs.Views.{seen_word}
use Rattle.tcl_prepared.specs.declared.prepared.PreparedWord.{PreparedWord}
use Rattle.tcl_text.proofs.Items.{three_items}
use Rattle.tcl_evaluation.specs.Hands.{AllStand}
use Rattle.tcl_evaluation.proofs.HandCalling.{some_more}
use Rattle.tcl_evaluation.proofs.list_parts.part_of_words.Goals as goal

pub returns-clause-answer : goal.returns-clause-answer
returns-clause-answer c =
    let frames = c.args.frames.now.frames in
    let texts = c.in_ok-a.a ∷ c.in_ok-b.b ∷ c.in_ok-c.c ∷ [] in
    let items = three_items c.args.words.now c.first-item.result c.second-item.result c.third-item.result c.in-len3.len_at_least c.in-len3.len_below c.first-item.is c.second-item.is c.third-item.is in
    let stand = subst (λ (ws : List PreparedWord). AllStand frames (map seen_word ws) texts) (sym items) (c.in_ok-a.ensures, (c.in_ok-b.ensures, (c.in_ok-c.ensures, tt))) in
    some_more c.part_of.result _ _ (λ v h. (texts, stand, h)) c.part_of.ensures.answer
