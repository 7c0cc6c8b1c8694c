use Rattle.tcl_lists.proofs.SortOptions.{options_step}
use Rattle.tcl_lists.proofs.sort_options.Sorting.with_options.Goals as goal

pub words-preserved : goal.words-preserved
words-preserved c = options_step c.words.sorting c.in_ok-sorting.sorting c.args.words.now c.words.word-index c.word-item.result _ c.words-test.true c.word-item.is c.in_ok-sorting.ensures c.words.invariant
