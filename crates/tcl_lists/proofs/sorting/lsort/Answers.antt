use Rattle.tcl_lists.specs.Computed.{lsort_of}
use Rattle.tcl_lists.specs.SortCommand.{IsLsort}
use Rattle.tcl_lists.proofs.Orders.{given_only, lsort_is}
use Rattle.tcl_lists.proofs.sorting.lsort.Goals as goal

pub returns-clause-computed : goal.returns-clause-computed
returns-clause-computed c = given_only c.sorted_by_words.result (IsLsort c.args.style c.args.words.now) (lsort_of c.args.style c.args.words.now) (lsort_is c.args.style c.args.words.now) c.sorted_by_words.ensures
