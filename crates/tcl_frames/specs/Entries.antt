-- Entries whose keys are names.
use Rattle.std.specs.Prelude.{◌≡◌, ℕ, List, [], ◌∷◌, Some, slice_get}
use Rattle.std.specs.Borrow.{Bor}
use Rattle.std.specs.String.{string_bytes}
use Rattle.std.specs.declared.string.String.{String}
use Rattle.std.specs.declared.alloc.Global.{Global}

abbrev pub named_entry : {V : Type 0} → String Global × V → List ℕ × V
named_entry e = (string_bytes e.0, e.1)

-- the same entries, with each key seen as its bytes
abbrev pub named : {V : Type 0} → List (String Global × V) → List (List ℕ × V)
named [] = []
named (e ∷ es) = (string_bytes e.0, e.1) ∷ named es

-- an entry that is lent
abbrev pub lent_entry : {V : Type 0} → Bor (List ℕ) × Bor V → List ℕ × V
lent_entry p = (p.0.now, p.1.now)

-- an entry with this name stands at a place
abbrev pub StandsAt : {V : Type 0} → List ℕ → List (String Global × V) → ℕ → Type 0
StandsAt {V} x es i = (k : String Global) × (v : V) × (slice_get es i ≡ Some (k, v)) ×
    (string_bytes k ≡ x)

-- the name stands at a place
abbrev pub Holds : {V : Type 0} → List ℕ → List (List ℕ × V) → ℕ → Type 0
Holds {V} x es i = (v : V) × (slice_get es i ≡ Some (x, v))
