-- What the first and the last place of a needle are.
use Rattle.std.specs.Prelude.{ℕ, ◌+◌, ◌≤◌, ◌≡◌, MatchOption, List, [], length}
use Rattle.tcl_characters.specs.Places.{StandsAt, first_place, last_place}

-- the needle stands at k, which is at or behind `start`, and at no lesser such place
pub record IsFirst (needle cs : List ℕ) (start k : ℕ) : Type 0 where
  pub stands : StandsAt needle cs k
  pub from : start ≤ k
  pub least : (j : ℕ) → start ≤ j → StandsAt needle cs j → k ≤ j

-- all of the needle stands at k before the place `end`, and at no greater such place
pub record IsLast (needle cs : List ℕ) (end k : ℕ) : Type 0 where
  pub stands : StandsAt needle cs k
  pub within : k + length needle ≤ end
  pub greatest : (j : ℕ) → j + length needle ≤ end → StandsAt needle cs j → j ≤ k

-- the first place is the least at which the needle stands; there is none where it stands nowhere
abbrev pub FirstPlaces : Type 0
FirstPlaces = (needle cs : List ℕ) (start : ℕ) → (needle ≡ [] → Prim.⊥)
    → MatchOption (first_place needle cs start)
    ((j : ℕ) → start ≤ j → StandsAt needle cs j → Prim.⊥) (IsFirst needle cs start)

-- the last place is the greatest at which the needle stands; there is none where it stands nowhere
abbrev pub LastPlaces : Type 0
LastPlaces = (needle cs : List ℕ) (end : ℕ) → (needle ≡ [] → Prim.⊥)
    → MatchOption (last_place needle cs end)
    ((j : ℕ) → j + length needle ≤ end → StandsAt needle cs j → Prim.⊥) (IsLast needle cs end)
