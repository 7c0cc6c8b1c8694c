-- Errors of changes inside nested lists and dicts, by the errors behind them, and what they say.
use Rattle.std.specs.Prelude.{ℕ, List, ◌++◌, codes}
use Rattle.tcl_text.specs.Writing.{fault_message}
use Rattle.tcl_text.specs.declared.list.ListError.{ListError}
use Rattle.tcl_text.specs.declared.list.ListError.TheVariants.{Memory as ListMemory}
use Rattle.tcl_text.specs.declared.list.ListError.TheVariants.{Fault as ListFaulty}
use Rattle.tcl_text.specs.Messages as messages
use Rattle.tcl_value.specs.DictMessages.{dict_message}
use Rattle.tcl_value.specs.declared.dict_fault.DictError.{DictError}
use Rattle.tcl_value.specs.declared.dict_fault.DictError.TheVariants.{Memory as DictMemory}
use Rattle.tcl_value.specs.declared.dict_fault.DictError.TheVariants.{Fault as DictFaulty}
use Rattle.tcl_value.specs.declared.dict_fault.EntryError.{EntryError}
use Rattle.tcl_value.specs.declared.dict_fault.EntryError.TheVariants.{Memory as EntryMemory}
use Rattle.tcl_value.specs.declared.dict_fault.EntryError.TheVariants.{TooLong as LongEntry}
use Rattle.tcl_value.specs.declared.dict_fault.EntryError.TheVariants.{Fault as EntryFaulty}
use Rattle.tcl_value.specs.declared.value.ValueError.{ValueError}
use Rattle.tcl_value.specs.declared.value.ValueError.TheVariants.{Memory as ValueMemory}
use Rattle.tcl_value.specs.declared.value.ValueError.TheVariants.{TooLong as LongValue}
use Rattle.tcl_value.specs.declared.value.ChangeError.{ChangeError}
use Rattle.tcl_value.specs.declared.value.ChangeError.TheVariants.{Memory as ChangeMemory}
use Rattle.tcl_value.specs.declared.value.ChangeError.TheVariants.{TooLong as LongChange}
use Rattle.tcl_value.specs.declared.value.ChangeError.TheVariants.{List as ChangeFaulty, NoElement}
use Rattle.tcl_lists.specs.declared.fault.NestedFault.{NestedFault}
use Rattle.tcl_lists.specs.declared.fault.NestedFault.TheVariants.{List as NoList, Dict as NoDict}
use Rattle.tcl_lists.specs.declared.fault.NestedFault.TheVariants.{BadIndex, NoPlace, UnknownKey}
use Rattle.tcl_lists.specs.declared.fault.NestedError.{NestedError}
use Rattle.tcl_lists.specs.declared.fault.NestedError.TheVariants.{Memory, TooLong, Fault}

abbrev pub of_value : ValueError → NestedError
of_value ValueMemory = Memory
of_value LongValue = TooLong

abbrev pub of_list : ListError → NestedError
of_list ListMemory = Memory
of_list (ListFaulty fault) = Fault (NoList fault)

abbrev pub of_dict : DictError → NestedError
of_dict DictMemory = Memory
of_dict (DictFaulty fault) = Fault (NoDict fault)

abbrev pub of_change : ChangeError → NestedError
of_change ChangeMemory = Memory
of_change LongChange = TooLong
of_change (ChangeFaulty fault) = Fault (NoList fault)
of_change NoElement = Fault NoPlace

abbrev pub of_entry : EntryError → NestedError
of_entry EntryMemory = Memory
of_entry LongEntry = TooLong
of_entry (EntryFaulty fault) = Fault (NoDict fault)

-- what is told of a key that a dict hasn't
abbrev pub unknown_key : List ℕ → List ℕ
unknown_key key = codes "key \"" ++ key ++ codes "\" not known in dictionary"

-- what an error says of a fault
abbrev pub nested_message : NestedFault → List ℕ
nested_message (NoList fault) = fault_message fault
nested_message (NoDict fault) = dict_message fault
nested_message (BadIndex index) = codes "bad index \"" ++ index ++ codes "\""
nested_message NoPlace = messages.out_of_range
nested_message (UnknownKey key) = unknown_key key
