-- How the entries of a map are kept.
use Rattle.std.specs.Prelude.{ℕ, List}
use Rattle.tcl_frames.specs.declared.name_map.Entries.{Entries}
use Rattle.tcl_frames.specs.declared.name_map.Entries.TheVariants.{Few, Many}

-- the entries, whichever way they are kept
abbrev pub kept : {V : Type 0} → Entries V → List (List ℕ × V)
kept (Few es) = es
kept (Many es) = es.value
