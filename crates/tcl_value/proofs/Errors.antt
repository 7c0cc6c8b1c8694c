-- Which error it is.
use Rattle.std.proofs.Common.{◌≡◌, Result, Ok, Err}
use Rattle.std.specs.Prelude.{IsErrOf, IsErrAnd, OnErr}
use Rattle.tcl_value.specs.declared.value.ValueError.{ValueError}
use Rattle.tcl_value.specs.declared.value.ValueError.TheVariants.{Memory, TooLong}

-- want of memory comes where nothing is refused
pub memory_alone : {T : Type 0} {P : Type 0} (r : Result T ValueError) → IsErrAnd r (λ e. e ≡ Memory) → (P → ⊥) → (IsErrOf r TooLong → P) × (P → IsErrOf r TooLong)
memory_alone (Ok x) h n = elim h [ ]
memory_alone (Err Memory) h n = ((λ e. absurd (cc)), (λ p. absurd (n p)))
memory_alone (Err TooLong) h n = absurd (cc)

pub on_err : {T E : Type 0} {P : Type 0} (r : Result T E) → P → OnErr r P
on_err (Ok x) p = tt
on_err (Err e) p = p
