-- Handles.
use Rattle.std.specs.Prelude.{◌≡◌, ◌⊎◌, ℤ, pos, Option, IsSome, None}
use Rattle.tcl_sessions.specs.Refusals.{number_of}
use Rattle.tcl_sessions.specs.declared.refusal.Refusal.{Refusal}
use Rattle.tcl_sessions.specs.declared.refusal.Refusal.TheVariants.{AlreadyHeld, Memory}

-- why there is no room for another object
abbrev pub IsUnplaced : Option (Unit {0}) → Refusal → Type 0
IsUnplaced held e = ((e ≡ AlreadyHeld) × IsSome held) ⊎ ((e ≡ Memory) × (held ≡ None))

-- an object is put where none was; or it is told why not, and what is held is as it was
abbrev pub Fills : Option (Unit {0}) → ℤ → Option (Unit {0}) → Type 0
Fills held code after = ((code ≡ pos 0) × (held ≡ None) × IsSome after) ⊎
    ((e : Refusal) × (code ≡ number_of e) × (after ≡ held))
