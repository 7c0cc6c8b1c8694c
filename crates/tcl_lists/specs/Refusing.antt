-- How changes of lists are refused.
use Rattle.std.specs.Prelude.{ℕ, List, Err}
use Rattle.tcl_text.specs.Writing.{fault_message}
use Rattle.tcl_text.specs.Messages as messages
use Rattle.tcl_words.specs.declared.refusal.Refusal.{Refusal}
use Rattle.tcl_words.specs.Outcomes.{Outcome, Refuses}
use Rattle.tcl_words.specs.Faults.{too_long}
use Rattle.tcl_value.specs.declared.value.ChangeError.{ChangeError}
use Rattle.tcl_value.specs.declared.value.ChangeError.TheVariants.{Memory, TooLong, List as NoList}
use Rattle.tcl_value.specs.declared.value.ChangeError.TheVariants.{NoElement}

-- what is told of a place that a list hasn't
abbrev pub out_of_range : List ℕ
out_of_range = messages.out_of_range

-- what is told of a list in a value that isn't changed
abbrev pub RefusesChange : Refusal → ChangeError → Type 0
RefusesChange r Memory = (outcome : Outcome) → Refuses r outcome
RefusesChange r TooLong = Refuses {X = List ℕ} r (Err too_long)
RefusesChange r (NoList fault) = Refuses {X = List ℕ} r (Err (fault_message fault))
RefusesChange r NoElement = Refuses {X = List ℕ} r (Err out_of_range)
