use Rattle.tcl_language.proofs.Branching.{if_is_read}
use Rattle.tcl_language.proofs.if_words_are_read.Goals as goal

pub returns : goal.returns
returns c = if_is_read
