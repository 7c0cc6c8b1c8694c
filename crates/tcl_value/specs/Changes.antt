-- Changes of the list that a value reads as.
use Rattle.std.specs.Prelude.{◌≡◌, Result, Ok, Err}
use Rattle.tcl_text.specs.declared.list.ListFault.{ListFault}
use Rattle.tcl_text.specs.declared.list.ListError.{ListError}
use Rattle.tcl_text.specs.declared.list.ListError.TheVariants.{Memory as WantsMemory, Fault}
use Rattle.tcl_value.specs.declared.value.ValueError.{ValueError}
use Rattle.tcl_value.specs.declared.value.ValueError.TheVariants.{Memory as NoMemory}
use Rattle.tcl_value.specs.declared.value.ValueError.TheVariants.{TooLong as LongValue}
use Rattle.tcl_value.specs.declared.value.ChangeError.{ChangeError}
use Rattle.tcl_value.specs.declared.value.ChangeError.TheVariants.{Memory, TooLong, List as NoList}
use Rattle.tcl_value.specs.declared.value.ChangeError.TheVariants.{NoElement}

-- the error of a change, by the error behind it
abbrev pub change_of_value : ValueError → ChangeError
change_of_value NoMemory = Memory
change_of_value LongValue = TooLong

abbrev pub change_of_list : ListError → ChangeError
change_of_list WantsMemory = Memory
change_of_list (Fault fault) = NoList fault

-- there is a list, of which this holds
abbrev pub AtList : {X : Type 0} → Result X ListFault → (X → Type 0) → Type 0
AtList (Ok list) P = P list
AtList (Err fault) P = ⊥

-- when a change is refused: where there is no list, where the text of the changed one is too long,
-- or where there is no such place
abbrev pub Refuses : {X : Type 0} → ChangeError → Result X ListFault → (X → Type 0) → (X → Type 0) →
    Type 0
Refuses Memory read Long Outside = Unit {0}
Refuses TooLong read Long Outside = AtList read Long
Refuses (NoList fault) read Long Outside = read ≡ Err fault
Refuses NoElement read Long Outside = AtList read Outside
