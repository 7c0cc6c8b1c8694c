-- Finite maps from names, which are texts seen as their bytes.
use Rattle.std.specs.Prelude.{map}
use Rattle.std.specs.Cmp.Lexicographic.{slice_cmp}
use Rattle.std.specs.Ordering.{nat_cmp}
use Rattle.std.specs.FinMap.{FinMap, from_entries}
use Rattle.std.specs.HashMap.{HashMap}
use Rattle.std.specs.declared.string.String.{String}
use Rattle.std.specs.String.{string_bytes}

-- a finite map from names
abbrev pub Named : Type 0 → Type 0
Named X = FinMap (slice_cmp nat_cmp) X

-- what a map with text keys holds at each name
abbrev pub by_name : {X Y S : Type 0} → HashMap (String Y) X S → Named X
by_name m = from_entries (map (λ e. (string_bytes e.0, e.1)) m.entries)
