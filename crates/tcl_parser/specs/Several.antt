-- Things that are read one after another.
use Rattle.std.specs.Prelude.{ℕ, zero, suc, List, [], ◌∷◌, Result, Ok, Err}
use Rattle.tcl_parser.specs.declared.fault.Fault.{Fault}

-- One turn: nothing more is to be read and this follows, or a thing was read and this is where the
-- next turn starts.
pub data Turn (A S : Type 0) : Type 0 where
  over : List ℕ → Turn A S
  next : A → S → Turn A S

-- The things that were read, and what follows them, or the fault that comes after them.
pub record Several (A : Type 0) : Type 0 where
  pub items : List A
  pub ended : Result (List ℕ) Fault

abbrev pub led_by : {A : Type 0} → A → Several A → Several A
led_by a others = record { items = a ∷ others.items; ended = others.ended }

-- a turn, and then what the turns after it read
abbrev pub and_then : {A S : Type 0} → Result (Turn A S) Fault → (S → Several A) → Several A
and_then (Ok (over rest)) later = record { items = []; ended = Ok rest }
and_then (Ok (next a s)) later = led_by a (later s)
and_then (Err f) later = record { items = []; ended = Err f }

-- Turn after turn, from s on. The number is at least how many turns there can be.
unfoldable pub several : {A S : Type 0} → (S → Result (Turn A S) Fault) → ℕ → S → Several A
several turn zero s = record { items = []; ended = Ok [] }
several turn (suc n) s = and_then (turn s) (several turn n)
