use Rattle.std.proofs.Common.{Err, sym, ◌∙◌, ap}
use Rattle.tcl_words.specs.Words.{integer_or}
use Rattle.tcl_words.proofs.WordLemmas.{refuses_at}
use Rattle.tcl_words.proofs.reading.integer_word.Goals as goal

pub returns-in-Err-NotInteger : goal.returns-in-Err-NotInteger
returns-in-Err-NotInteger c = refuses_at c.fault_with.result _ _ (ap (integer_or c.args.word.now) (sym c.in-Err-NotInteger.ensures ∙ ap Err c.in-Err-NotInteger.field-0-is)) (c.fault_with.ensures _ c.not_integer_message.ensures)

pub returns-in-Err-TooLarge : goal.returns-in-Err-TooLarge
returns-in-Err-TooLarge c = refuses_at c.fault_with-in-Err-TooLarge.result _ _ (ap (integer_or c.args.word.now) (sym c.in-Err-TooLarge.ensures ∙ ap Err c.in-Err-TooLarge.field-0-is)) (c.fault_with-in-Err-TooLarge.ensures _ c.too_large_message.ensures)
