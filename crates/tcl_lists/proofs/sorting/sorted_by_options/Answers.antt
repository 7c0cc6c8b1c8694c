use Rattle.std.proofs.Common.{Err, rules}
use Rattle.tcl_lists.specs.Sorting.{After, GivesSome}
use Rattle.tcl_lists.specs.SortCommand.{plain, with_options, IsSortedWord}
use Rattle.tcl_lists.proofs.Given.{refused_first, given_first}
use Rattle.tcl_lists.proofs.sorting.sorted_by_options.Goals as goal

pub returns-in_err-sorting : goal.returns-in_err-sorting
returns-in_err-sorting c =
    let told : GivesSome (Err c.in_err-sorting.field-0.0) (After (with_options plain c.args.options.now) (IsSortedWord c.args.style c.args.word.now)) = refused_first c.in_err-sorting.field-0.0 (with_options plain c.args.options.now) (IsSortedWord c.args.style c.args.word.now) c.in_err-sorting.ensures in
    search rules

pub returns : goal.returns
returns c = given_first c.sorted_word.result (with_options plain c.args.options.now) _ (IsSortedWord c.args.style c.args.word.now) c.in_ok-sorting.ensures c.sorted_word.ensures
