-- Parts of lists.
use Rattle.std.specs.Prelude.{ℕ, ◌≤◌, List, length}

-- the places stand in the list, one behind the other
pub record IsPart (from to : ℕ) (list : List (List ℕ)) : Type 0 where
  pub order : from ≤ to
  pub within : to ≤ length list
