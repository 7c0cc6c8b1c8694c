-- Changes of the dict that a value reads as.
use Rattle.std.specs.Prelude.{◌≡◌, Result, Ok, Err}
use Rattle.tcl_value.specs.Dicts.{Pairs}
use Rattle.tcl_value.specs.declared.value.ValueError.{ValueError}
use Rattle.tcl_value.specs.declared.value.ValueError.TheVariants.{Memory as NoMemory}
use Rattle.tcl_value.specs.declared.value.ValueError.TheVariants.{TooLong as LongValue}
use Rattle.tcl_value.specs.declared.dict_fault.DictFault.{DictFault}
use Rattle.tcl_value.specs.declared.dict_fault.DictError.{DictError}
use Rattle.tcl_value.specs.declared.dict_fault.DictError.TheVariants.{Memory as WantsMemory}
use Rattle.tcl_value.specs.declared.dict_fault.DictError.TheVariants.{Fault as NoDict}
use Rattle.tcl_value.specs.declared.dict_fault.EntryError.{EntryError}
use Rattle.tcl_value.specs.declared.dict_fault.EntryError.TheVariants.{Memory, TooLong, Fault}

-- the error of a change, by the error behind it
abbrev pub entry_of_value : ValueError → EntryError
entry_of_value NoMemory = Memory
entry_of_value LongValue = TooLong

abbrev pub entry_of_dict : DictError → EntryError
entry_of_dict WantsMemory = Memory
entry_of_dict (NoDict fault) = Fault fault

-- there is a dict, of which this holds
abbrev pub AtDict : Result Pairs DictFault → (Pairs → Type 0) → Type 0
AtDict (Ok es) P = P es
AtDict (Err fault) P = ⊥

-- when a change is refused: where there is no dict, or where the text of the changed one is too
-- long
abbrev pub RefusesEntry : EntryError → Result Pairs DictFault → (Pairs → Type 0) → Type 0
RefusesEntry Memory read Long = Unit {0}
RefusesEntry TooLong read Long = AtDict read Long
RefusesEntry (Fault fault) read Long = read ≡ Err fault
