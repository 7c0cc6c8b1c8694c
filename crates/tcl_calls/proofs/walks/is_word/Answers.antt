use Rattle.tcl_calls.proofs.Walking.{word_told}
use Rattle.tcl_calls.proofs.walks.is_word.Goals as goal

pub returns-then-first-ne35 : goal.returns-then-first-ne35
returns-then-first-ne35 c =
    word_told c.args.text.now c.as_bytes.result.now c.has_special.result c.as_bytes.ensures.value c.in-len1-up.len_at_least c.if-first-ne35.true c.has_special.ensures
