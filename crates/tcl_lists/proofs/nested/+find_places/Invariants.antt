use Rattle.std.proofs.Common.{length}
use Rattle.tcl_lists.proofs.nested.+find_places.Given as goal

abbrev pub decreases-find_places : goal.decreases-find_places
decreases-find_places l = length l.path.now
