-- Limits that are asked for from outside.
use Rattle.std.specs.Prelude.{◌≡◌, ℕ, ◌≤◌, List, [], ◌∷◌, Option, Some}
use Rattle.tcl_core.specs.Entries.{Entry}
use Rattle.tcl_core.specs.Entries.Entry.{SetCountLimit}
use Rattle.tcl_core.specs.Paths.{Path}
use Rattle.tcl_core.specs.Trees.{Move}
use Rattle.tcl_core.specs.Trees.Move.{Enter}

-- a limit that is at most l
abbrev pub AtMost : ℕ → Option ℕ → Type 0
AtMost l x = (k : ℕ) × (x ≡ Some k) × (k ≤ l)

-- the entry neither raises the top's count limit past l nor takes it away
abbrev pub Lowering : ℕ → Path → Entry → Type 0
Lowering l [] (SetCountLimit x) = AtMost l x
Lowering l t i = Unit {0}

abbrev pub AreLowering : {O : Type 0} → ℕ → List (Move O) → Type 0
AreLowering l [] = Unit {0}
AreLowering l (Enter t i ∷ ms) = Lowering l t i × AreLowering l ms
AreLowering l (m ∷ ms) = AreLowering l ms
