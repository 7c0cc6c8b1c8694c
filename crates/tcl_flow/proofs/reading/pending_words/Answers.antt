use Rattle.std.proofs.Common.{ap, arith, sym, reverse, ◌∙◌}
use Rattle.tcl_flow.proofs.Words.{options_end}
use Rattle.tcl_flow.proofs.reading.pending_words.Goals as goal

pub options-init : goal.options-init
options-init c = (omega arith, c.new-pending.ensures.items ∙ sym (ap reverse (options_end c.args.words.now)))
