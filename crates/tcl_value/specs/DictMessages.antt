-- What errors of dicts say.
use Rattle.std.specs.Prelude.{ℕ, List}
use Rattle.tcl_text.specs.Writing.{fault_message}
use Rattle.tcl_text.specs.Messages as messages
use Rattle.tcl_value.specs.declared.dict_fault.DictFault.{DictFault}
use Rattle.tcl_value.specs.declared.dict_fault.DictFault.TheVariants.{List as NoList, MissingValue}

abbrev pub dict_message : DictFault → List ℕ
dict_message (NoList fault) = fault_message fault
dict_message MissingValue = messages.missing_value
