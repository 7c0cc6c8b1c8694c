use Rattle.std.proofs.Common.{Err, rules}
use Rattle.tcl_words.specs.Words.{list_word}
use Rattle.tcl_lists.specs.Sorting.{After, GivesSome}
use Rattle.tcl_lists.specs.SortCommand.{IsSortedAs}
use Rattle.tcl_lists.proofs.Given.{refused_first, given_first}
use Rattle.tcl_lists.proofs.sorting.sorted_word.Goals as goal

pub returns-in_err-list : goal.returns-in_err-list
returns-in_err-list c =
    let told : GivesSome (Err c.in_err-list.field-0.0) (After (list_word c.args.word.now) (IsSortedAs c.args.style c.args.sorting c.args.sorting.by_number)) = refused_first c.in_err-list.field-0.0 (list_word c.args.word.now) (IsSortedAs c.args.style c.args.sorting c.args.sorting.by_number) c.in_err-list.ensures in
    search rules

pub returns : goal.returns
returns c = given_first c.sorted.result (list_word c.args.word.now) _ (IsSortedAs c.args.style c.args.sorting c.args.sorting.by_number) c.in_ok-list.ensures c.sorted.ensures
