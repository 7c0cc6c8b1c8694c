use Rattle.std.proofs.Common.{Err, rules}
use Rattle.std.specs.Prelude.{codes}
use Rattle.tcl_lists.specs.Sorting.{After, GivesSome}
use Rattle.tcl_lists.specs.Lists.{all_and_last}
use Rattle.tcl_lists.specs.SortCommand.{IsSortedBehind}
use Rattle.tcl_lists.proofs.Given.{refused_first, given_first}
use Rattle.tcl_lists.proofs.sorting.sorted_by_words.Goals as goal

pub returns-in_err-options : goal.returns-in_err-options
returns-in_err-options c =
    let told : GivesSome (Err c.in_err-options.field-0.0) (After (all_and_last (codes "lsort ?option ...? list") c.args.words.now) (IsSortedBehind c.args.style)) = refused_first c.in_err-options.field-0.0 (all_and_last (codes "lsort ?option ...? list") c.args.words.now) (IsSortedBehind c.args.style) c.in_err-options.ensures in
    search rules

pub returns : goal.returns
returns c = given_first c.sorted_by_options.result (all_and_last (codes "lsort ?option ...? list") c.args.words.now) _ (IsSortedBehind c.args.style) c.in_ok-options.ensures c.sorted_by_options.ensures
