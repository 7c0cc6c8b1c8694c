use Rattle.tcl_parser.proofs.GapLemmas.{after_ascii_head}
use Rattle.tcl_parser.proofs.scan.skip_ascii.Goals as goal

pub returns-in-Some : goal.returns-in-Some
returns-in-Some c = after_ascii_head _ _ _ c.in-Some.ensures.split c.in-Some.ensures.ascii
