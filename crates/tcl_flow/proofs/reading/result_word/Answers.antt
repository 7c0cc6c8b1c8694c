use Rattle.std.proofs.Common.{◌≡◌, ◌%◌, length, sym, ◌∙◌, arith, rules}
use Rattle.tcl_flow.proofs.Words.{no_result, result_last}
use Rattle.tcl_flow.proofs.reading.result_word.Goals as goal

pub returns-then-words-eq0 : goal.returns-then-words-eq0
returns-then-words-eq0 c = c.empty.ensures ∙ sym (no_result c.args.words.now c.if-words-eq0.true)

pub returns : goal.returns
returns c =
    let e = c.index-words-words.is in
    let f = c.if-words-eq0.false in
    let odd : length c.args.words.now % 2 ≡ 1 = omega arith in
    let last = result_last c.args.words.now c.index-words-words.result odd in
    let is = e ∙ last in
    search (rules, c.clone.ensures.cases, is)
