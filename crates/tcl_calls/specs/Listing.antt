-- The keys of maps.
use Rattle.std.specs.Prelude.{List, map}
use Rattle.tcl_core.specs.Paths.{Text}

-- the keys of entries, in order
abbrev pub first_of : {A : Type 0} → List (Text × A) → List Text
first_of es = map (λ e. e.0) es
