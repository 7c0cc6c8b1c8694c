use Rattle.std.proofs.Common.{◌≡◌, ◌<◌, ℕ, true}
use Rattle.std.specs.Prelude.{is_some}
use Rattle.std.specs.Str.{bytes_eq}
use Rattle.std.specs.Map.{lookup}
use Rattle.tcl_tree.specs.Changes.{interp_name}
use Rattle.tcl_tree.proofs.tree.children.first_free.Given as goal

-- the names of the numbers before are commands
abbrev pub invariant-numbers : goal.invariant-numbers
invariant-numbers l = (m : ℕ) → m < l.number → is_some (lookup (bytes_eq (interp_name m)) l.commands.entries) ≡ true
