use Rattle.std.proofs.Common.{ap}
use Rattle.tcl_words.specs.Words.{list_or}
use Rattle.tcl_words.proofs.WordLemmas.{refuses_at}
use Rattle.tcl_words.proofs.reading.list_word.Goals as goal

pub returns-in-Err-Fault : goal.returns-in-Err-Fault
returns-in-Err-Fault c =
    let fault = rw c.in-Err-Fault.field-0-is at c.in-Err-Fault.ensures.reads in
    refuses_at c.fault_with.result _ _ (ap list_or fault) (c.fault_with.ensures _ c.message.ensures)
