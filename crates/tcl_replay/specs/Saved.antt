-- What contracts see of an interpreter that is saved.
use Rattle.std.specs.Prelude.{Bool, true, false, Option, Some, None, is_some}
use Rattle.tcl_core.specs.Paths.{Path}
use Rattle.tcl_core.specs.Trees.{Tree}
use Rattle.tcl_eval.specs.declared.running.Refused.{Refused}
use Rattle.tcl_eval.specs.declared.running.Refused.TheVariants as refused
use Rattle.tcl_text.specs.declared.integer.Integers.{Integers}
use Rattle.tcl_tree.specs.Own.{Own}
use Rattle.tcl_tree.specs.TreeOf.{marks_of, tree_of}
use Rattle.tcl_tree.specs.declared.tree.Tree.{Tree as Table}
use Rattle.tcl_replay.specs.declared.saving.Saved.{Saved}

-- its interpreters, how integer texts are read in them, and whether a replay left it where a call
-- was open
pub record SavedView : Type 0 where
  pub tree : Tree Own
  pub integers : Integers
  pub waits : Bool

abbrev pub saved_of : Saved → SavedView
saved_of s = record {
  tree = tree_of s.tree;
  integers = (marks_of s.tree).integers;
  waits = s.waits;
}

-- why nothing is saved, want of memory aside: the tree is broken, or nobody stands there
abbrev pub first_of : Bool → Bool → Option Refused
first_of true there = Some refused.Broken
first_of false false = Some refused.NoInterpreter
first_of false true = None

abbrev pub unsavable : Table → Path → Option Refused
unsavable t path = first_of (marks_of t).broken (is_some (tree_of t path))
