-- What contracts see of a record.
use Rattle.std.specs.Prelude.{List, [], ◌∷◌, ◌++◌}
use Rattle.tcl_core.specs.Paths.{Path}
use Rattle.tcl_core.specs.Trees.{Event}
use Rattle.tcl_tree.specs.Own.{Own}

-- where the watched interpreter is, and what crossed its boundary
pub record RecordView : Type 0 where
  pub watched : Path
  pub crossings : List (Event Own)

-- with one crossing more
abbrev pub longer : RecordView → Event Own → RecordView
longer r x = record { watched = r.watched; crossings = r.crossings ++ x ∷ [] }
