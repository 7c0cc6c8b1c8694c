use Rattle.std.proofs.Common.{◌≡◌, drop}
use Rattle.tcl_lists.specs.SearchOptions.{with_options}
use Rattle.tcl_lists.proofs.search_options.Search.with_options.Given as goal

abbrev pub invariant-words : goal.invariant-words
invariant-words l = with_options l.search (drop l.word-index l.words) ≡ with_options l.fn.self l.words
