use Rattle.std.proofs.Common.{◌≡◌, Err, [], ◌+◌, ◌++◌, drop, get_or, sym, ◌∙◌, ap}
use Rattle.std.proofs.lemmas.List.{append-nil}
use Rattle.tcl_lists.proofs.Lengths.{past_at}
use Rattle.tcl_lists.proofs.Parts.{words_split}
use Rattle.tcl_lists.proofs.building.push_words.Goals as goal

pub returns-in-Err-clause-refused : goal.returns-in-Err-clause-refused
returns-in-Err-clause-refused c = λ rest.
    let x = c.in_ok-own.own in
    let is_item : x ≡ c.word-item.result = c.in_ok-own.ensures.cases in
    let is : x ≡ get_or c.args.words.now c.words.word-index x = cc (c.word-item.is) in
    let split = words_split c.args.words.now c.args.made.now c.words.made rest c.words.word-index x c.words.invariant c.words-test.true is in
    c.not_made.ensures _ (λ e. past_at _ (drop (c.words.word-index + 1) c.args.words.now ++ rest) _ split (c.in-Err.ensures.refused (ap Err e)))

pub returns-in-Err-clause-refused_here : goal.returns-in-Err-clause-refused_here
returns-in-Err-clause-refused_here c =
    let x = c.in_ok-own.own in
    let is_item : x ≡ c.word-item.result = c.in_ok-own.ensures.cases in
    let is : x ≡ get_or c.args.words.now c.words.word-index x = cc (c.word-item.is) in
    let split = words_split c.args.words.now c.args.made.now c.words.made [] c.words.word-index x c.words.invariant c.words-test.true is in
    c.not_made.ensures _ (λ e. past_at _ (drop (c.words.word-index + 1) c.args.words.now ++ []) _ (ap (λ t. c.args.made.now ++ t) (sym (append-nil c.args.words.now)) ∙ split) (c.in-Err.ensures.refused (ap Err e)))
