use Rattle.std.proofs.Common.{◌-◌, length, take, arith}
use Rattle.std.proofs.lemmas.List.{length-take-le}
use Rattle.tcl_calls.proofs.Walking.{before_last, even_is, few_words, odd_words}
use Rattle.tcl_calls.proofs.walks.loop_words.Goals as goal
use Rattle.tcl_calls.proofs.walks.loop_words.Goals.{then-words-lt2-via-then-words-lt2, then-words-lt2-via-else-words-lt2+then-words-eq1}

pub returns-then-words-lt2 : goal.returns-then-words-lt2
returns-then-words-lt2 c =
    let some = c.in-len1-up.len_at_least in
    let n = length-take-le (length c.args.args.now - 1) c.args.args.now (omega arith) in
    elim c.then-words-lt2.branch [
      | then-words-lt2-via-then-words-lt2 w ↦ few_words c.args.args.now (let few = w.if-words-lt2.true in omega (arith, few, n, some))
      | then-words-lt2-via-else-words-lt2+then-words-eq1 w ↦ odd_words c.args.args.now c.in-len1-up.len_at_least w.if-words-eq1.true
    ]

pub returns : goal.returns
returns c = (before_last c.args.args.now c.body-item.result c.in-len1-up.len_at_least c.body-item.is, even_is (take (length c.args.args.now - 1) c.args.args.now) (λ h. c.if-words-eq1.false h), (let more = c.if-words-lt2.false in omega (arith, more)))
