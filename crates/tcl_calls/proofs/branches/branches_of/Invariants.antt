use Rattle.std.proofs.Common.{◌≡◌, ℕ, ◌≤◌, length}
use Rattle.tcl_language.specs.Expressions.{branches_of, branches_within}
use Rattle.tcl_calls.specs.BranchesRead.{behind, tests_of}
use Rattle.tcl_calls.proofs.branches.branches_of.Given as goal

abbrev pub invariant-branches : goal.invariant-branches
invariant-branches l = (n : ℕ) × (length l.left ≤ n) × (behind (tests_of l.tests.items) (branches_within n l.left) ≡ branches_of l.fn.words)

abbrev pub decreases-branches : goal.decreases-branches
decreases-branches l = length l.left
