-- What is lent out of a map.
use Rattle.std.specs.Prelude.{◌≡◌, ℕ, List, Option, OnSome}
use Rattle.std.specs.Borrow.{LendsSo, MutBor, Fml, RattleType}
use Rattle.std.specs.Str.{bytes_eq}
use Rattle.std.specs.Map.{set_value}
use Rattle.tcl_frames.specs.contracts.few_names.FewNames.{the_row as few_row}
use Rattle.tcl_frames.specs.contracts.many_names.ManyNames.{the_row as many_row}
use Rattle.tcl_frames.specs.contracts.name_map.NameMap.{the_row as map_row}

-- once the borrow ends, the name has the value that was left, and at `None` the names are as they
-- were
abbrev pub lends_few : (V : RattleType) → MutBor (List (List ℕ × V.Denot)) → List ℕ →
    Option (MutBor V.Denot) → Fml
lends_few V s q r = LendsSo (few_row V) V s r (λ n w. OnSome r (n ≡ set_value (bytes_eq q) s.now w))
    (λ n. n ≡ s.now)

-- the same of many
abbrev pub lends_many : (V : RattleType) → MutBor (List (List ℕ × V.Denot)) → List ℕ →
    Option (MutBor V.Denot) → Fml
lends_many V s q r = LendsSo (many_row V) V s r
    (λ n w. OnSome r (n ≡ set_value (bytes_eq q) s.now w)) (λ n. n ≡ s.now)

-- the same of a map
abbrev pub lends_named : (V : RattleType) → MutBor (List (List ℕ × V.Denot)) → List ℕ →
    Option (MutBor V.Denot) → Fml
lends_named V s q r = LendsSo (map_row V) V s r
    (λ n w. OnSome r (n ≡ set_value (bytes_eq q) s.now w)) (λ n. n ≡ s.now)
