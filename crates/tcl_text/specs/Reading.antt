-- What the functions that read a list give.
use Rattle.std.specs.Prelude.{◌≡◌, ℕ, Bool, not, ◌&&◌, ◌==◌, Ok, Err}
use Rattle.std.specs.declared.result.Result.{Result}
use Rattle.tcl_text.specs.Lists.{is_white, is_quote}
use Rattle.tcl_text.specs.declared.list.ListFault.{ListFault}
use Rattle.tcl_text.specs.declared.list.ListError.{ListError}
use Rattle.tcl_text.specs.declared.list.ListError.TheVariants.{Memory, Fault}
use Rattle.tcl_text.specs.declared.list.UnitEnd.{UnitEnd}
use Rattle.tcl_text.specs.declared.list.UnitEnd.TheVariants.{White, Quote}

-- the bytes at which a run of units ends
abbrev pub stop_test : UnitEnd → ℕ → Bool
stop_test White = is_white
stop_test Quote = is_quote

-- a byte that means itself, in a run that ends at a byte that stops
abbrev pub is_plain : (ℕ → Bool) → ℕ → Bool
is_plain stop b = not (b == 92) && not (stop b)

-- What a function returned, seen by view, is what reading gives, unless memory ran out.
abbrev pub Fails : {Y : Type 0} → ListError → Result Y ListFault → Type 0
Fails Memory read = Unit {0}
Fails (Fault f) read = read ≡ Err f

abbrev pub Gives : {X Y : Type 0} → (X → Y) → Result X ListError → Result Y ListFault → Type 0
Gives view (Ok x) read = read ≡ Ok (view x)
Gives view (Err e) read = Fails e read

-- what holds of the fault, where it is one
abbrev pub IfFault : ListError → (ListFault → Type 0) → Type 0
IfFault Memory P = Unit {0}
IfFault (Fault f) P = P f
