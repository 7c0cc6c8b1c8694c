use Rattle.std.proofs.Common.{◌∙◌, sym}
use Rattle.tcl_glob.specs.Patterns.{letters, items, matches_items}
use Rattle.tcl_glob.proofs.Matching.{some_from_whole}
use Rattle.tcl_glob.proofs.matches_some_end.Goals as goal

pub returns-in-Whole : goal.returns-in-Whole
returns-in-Whole c =
    sym (some_from_whole (matches_items (items (letters c.args.nocase c.ends.left.now))) (letters c.args.nocase c.ends.rest.now) c.in-Whole.ensures) ∙ c.ends.invariant.2
