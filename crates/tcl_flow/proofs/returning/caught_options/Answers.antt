use Rattle.tcl_flow.proofs.Lengths.{made_text, past_text}
use Rattle.tcl_flow.proofs.returning.caught_options.Goals as goal

pub returns-clause-made : goal.returns-clause-made
returns-clause-made c = made_text c.from_text.result _ _ c.in_ok-text.ensures c.from_text.ensures

pub returns-clause-refused : goal.returns-clause-refused
returns-clause-refused c = past_text c.from_text.result _ _ c.in_ok-text.ensures c.from_text.ensures
