use Rattle.tcl_dicts.proofs.Listed.{element_past}
use Rattle.tcl_dicts.proofs.listing.push_text.Goals as goal

pub returns-in-Err-clause-refused : goal.returns-in-Err-clause-refused
returns-in-Err-clause-refused c = λ rest. c.not_made.ensures _ (λ is. element_past c.args.made.now rest c.args.text c.in-Err.ensures.1)
