-- What programs come to by looking and changing alone.
use Rattle.std.specs.Prelude.{◌≡◌, Some}
use Rattle.tcl_core.specs.Endings.{Reply}
use Rattle.tcl_core.specs.Paths.{Path}
use Rattle.tcl_core.specs.Programs.Act.{Look, Change}
use Rattle.tcl_core.specs.Programs.Prog.{act}
use Rattle.tcl_core.specs.Trees.{Tree, Node, at, effect}
use Rattle.tcl_core.specs.Trees.What.{Changed}
use Rattle.tcl_language.specs.Instructions.{Program}
use Rattle.tcl_tree.specs.Own.{Own}
use Rattle.tcl_tree.specs.TreeOf.{tree_of, Names}
use Rattle.tcl_tree.specs.declared.tree.Tree as table
use Rattle.tcl_tree.specs.declared.tree.Place as table_place
use Rattle.tcl_commands.specs.Ending.{EndsSo}

-- From the one program and tree the interpreter at p gets to the other: on the way it looks at
-- interpreters and changes its own part, and what is left may do anything.
pub data Reaches : Path → Program → Tree Own → Program → Tree Own → Type 0 where
  here : {p : Path} {x : Program} {T : Tree Own} → Reaches p x T x T
  looked : {p : Path} {T U : Tree Own} {k : Tree Own → Program} {y : Program} →
      Reaches p (k (at T p)) T y U → Reaches p (act Look k) T y U
  changed : {p : Path} {T U : Tree Own} {own : Own} {n : Node Own} {k : Tree Own → Program}
      {y : Program} → T p ≡ Some n →
      Reaches p (k (at T p)) (effect p (Changed own) T) y U → Reaches p (act (Change own) k) T y U

-- it gets to an end
pub record ReachesEnd (p : Path) (x : Program) (T U : Tree Own) (r : Reply) : Type 0 where
  pub last : Program
  pub way : Reaches p x T last U
  pub end : EndsSo last r

-- the same wherever the place is
abbrev pub GetsTo : table.Tree → table_place.Place → Program → table.Tree → Program → Type 0
GetsTo old place x new y = (p : Path) → Names old place p →
    Reaches p x (tree_of old) y (tree_of new)

abbrev pub GetsToEnd : table.Tree → table_place.Place → Program → table.Tree → Reply → Type 0
GetsToEnd old place x new r = (p : Path) → Names old place p →
    ReachesEnd p x (tree_of old) (tree_of new) r
