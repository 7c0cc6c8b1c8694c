use Rattle.tcl_parser.proofs.BraceLemmas.{line_in_braces, backslash_in_braces, EndsWith-after_backslash}
use Rattle.tcl_parser.proofs.scan.backslash_in_braces.Goals as goal

pub returns-in-Some-clause-reads : goal.returns-in-Some-clause-reads
returns-in-Some-clause-reads c = line_in_braces _ _ _ _ _ c.requires c.in-Some.ensures c.read_escape.ensures.rest

pub before-requires : goal.before-requires
before-requires c = EndsWith-after_backslash _ _ _ c.requires c.skip_ascii-after.ensures

pub returns-in-None-clause-reads : goal.returns-in-None-clause-reads
returns-in-None-clause-reads c = backslash_in_braces _ _ _ _ _ c.requires c.in-None.ensures c.skip_ascii-after.ensures c.before-in-None.ensures
