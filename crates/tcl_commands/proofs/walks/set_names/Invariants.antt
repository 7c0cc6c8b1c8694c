use Rattle.std.proofs.Common.{◌≡◌, ◌-◌, ℕ, List, drop, length}
use Rattle.tcl_language.specs.Control.{sets_names}
use Rattle.tcl_language.specs.Instructions.{Program}
use Rattle.tcl_run.specs.Runs.{IsLevel}
use Rattle.tcl_commands.specs.Reaching.{GetsTo}
use Rattle.tcl_commands.proofs.walks.set_names.Given as goal

abbrev pub invariant-names : goal.invariant-names
invariant-names l = record {
  way : (k : List (List ℕ) → Program) → GetsTo l.fn.tree l.fn.place (sets_names l.fn.names (drop l.fn.from l.fn.elements) k) l.tree (sets_names (drop l.name-index l.fn.names) (drop l.at l.fn.elements) k);
  fewer : length (drop l.at l.fn.elements) ≡ length (drop l.fn.from l.fn.elements) - l.name-index;
  level : IsLevel l.fn.tree l.tree;
}
