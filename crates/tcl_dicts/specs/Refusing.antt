-- How changes of dicts are refused.
use Rattle.std.specs.Prelude.{ℕ, List, Err}
use Rattle.tcl_words.specs.declared.refusal.Refusal.{Refusal}
use Rattle.tcl_words.specs.Outcomes.{Outcome, Refuses}
use Rattle.tcl_words.specs.Faults.{too_long}
use Rattle.tcl_value.specs.DictMessages.{dict_message}
use Rattle.tcl_value.specs.declared.dict_fault.EntryError.{EntryError}
use Rattle.tcl_value.specs.declared.dict_fault.EntryError.TheVariants.{Memory, TooLong, Fault}

-- what is told of a dict in a value that isn't changed
abbrev pub RefusesEntry : Refusal → EntryError → Type 0
RefusesEntry r Memory = (outcome : Outcome) → Refuses r outcome
RefusesEntry r TooLong = Refuses {X = List ℕ} r (Err too_long)
RefusesEntry r (Fault fault) = Refuses {X = List ℕ} r (Err (dict_message fault))
