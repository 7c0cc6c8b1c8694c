use Rattle.std.proofs.Common.{◌≡◌, List, length}
use Rattle.tcl_expr.specs.Trees.{Tree}
use Rattle.tcl_expr.specs.Reading.{Open, settle}
use Rattle.tcl_expr.specs.Code.{code_of}
use Rattle.tcl_expr.specs.Parsing.{Holds}
use Rattle.tcl_expr.proofs.parser.Parser.settle.Given as goal

abbrev pub invariant-open : goal.invariant-open
invariant-open l = (os : List Open) (a : Tree) → Holds l.initial.self.nodes.items l.initial.self.pending.items l.initial.self.depth os (code_of a) → (os' : List Open) × (a' : Tree) × Holds l.self.nodes.items l.self.pending.items l.self.depth os' (code_of a') × (settle l.next os' a' ≡ settle l.next os a)

abbrev pub decreases-open : goal.decreases-open
decreases-open l = length l.self.pending.items
