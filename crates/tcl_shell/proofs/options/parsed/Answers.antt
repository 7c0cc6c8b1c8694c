use Rattle.std.proofs.Common.{map}
use Rattle.clap.specs.Words.{app_of}
use Rattle.tcl_shell.proofs.WordLemmas.{parsed_so, misparsed_so}
use Rattle.tcl_shell.proofs.options.parsed.Goals as goal

pub returns-clause-parsed : goal.returns-clause-parsed
returns-clause-parsed c =
    let made = c.in_ok-command.ensures in
    parsed_so (map (λ word. word.now) c.args.words.now) made.0 (app_of c.in_ok-command.field-0) c.try_get_matches_from.result made.1 made.2 c.try_get_matches_from.ensures.matches c.try_get_matches_from.ensures.kinds

pub returns-clause-mistake : goal.returns-clause-mistake
returns-clause-mistake c =
    let made = c.in_ok-command.ensures in
    misparsed_so (map (λ word. word.now) c.args.words.now) made.0 (app_of c.in_ok-command.field-0) c.try_get_matches_from.result made.1 made.2 c.try_get_matches_from.ensures.kinds
