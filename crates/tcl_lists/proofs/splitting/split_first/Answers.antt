use Rattle.tcl_lists.proofs.Added.{first_of}
use Rattle.tcl_lists.proofs.splitting.split_first.Goals as goal

pub returns : goal.returns
returns c = first_of c.args.text.now _ _ c.as_str.result.now c.in_ok-first.first c.utf8.text c.chars-characters.ensures.rest c.as_str.ensures c.in_ok-first.ensures.steps.0
