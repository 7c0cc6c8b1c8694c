use Rattle.std.proofs.Common.{◌-◌, ◌∷◌, length, take, drop, sym, ◌∙◌, ap}
use Rattle.std.specs.Prelude.{codes}
use Rattle.tcl_calls.proofs.Looks.{is_word, is_no_word, untrue}
use Rattle.tcl_language.specs.Changes as changes
use Rattle.tcl_language.specs.Instructions.{either}
use Rattle.tcl_language.specs.Pairing as pairing
use Rattle.tcl_text.proofs.Items.{no_item, split_first}
use Rattle.tcl_evaluation.proofs.loops.behind_for.Goals as goal

pub returns-in_default : goal.returns-in_default
returns-in_default c = λ style.
    let none = no_item c.args.args.now c.in_default.len_below in
    ap (pairing.dict style) none ∙ ap (changes.dict style) (sym none)

pub returns-then-is_text : goal.returns-then-is_text
returns-then-is_text c = λ style.
    let rest = take (length c.args.args.now - 1) (drop 1 c.args.args.now) in
    let is = split_first c.args.args.now c.word-item.result c.in-len1-up.len_at_least c.word-item.is in
    let yes = is_word c.word-item.result (codes "for") (c.is_text.ensures.0 c.if-is_text.true) in
    ap (pairing.dict style) is ∙ ap (λ b. either b (pairing.dict_for rest) (changes.dict style (c.word-item.result ∷ rest))) yes

pub returns : goal.returns
returns c = λ style.
    let rest = take (length c.args.args.now - 1) (drop 1 c.args.args.now) in
    let is = split_first c.args.args.now c.word-item.result c.in-len1-up.len_at_least c.word-item.is in
    let no = is_no_word c.word-item.result (codes "for") (untrue c.is_text.result _ c.is_text.ensures.1 c.if-is_text.false) in
    ap (pairing.dict style) is ∙ ap (λ b. either b (pairing.dict_for rest) (changes.dict style (c.word-item.result ∷ rest))) no ∙ ap (changes.dict style) (sym is)
