-- Changes inside the nested list of a variable's value.
use Rattle.std.specs.Prelude.{ℕ, List, Ok, Err}
use Rattle.std.specs.declared.result.Result.{Result}
use Rattle.tcl_text.specs.declared.integer.Integers.{Integers}
use Rattle.tcl_words.specs.Outcomes.{Outcome, next}
use Rattle.tcl_words.specs.Words.{list_word}
use Rattle.tcl_words.specs.Limits.{limited}
use Rattle.tcl_lists.specs.Nested.{element_changed}
use Rattle.tcl_lists.specs.Errors.{nested_message}
use Rattle.tcl_lists.specs.declared.fault.NestedFault.{NestedFault}
use Rattle.tcl_lists.specs.Lists.{Texts, indexes_of}

-- what a command tells of a change inside nested lists or dicts: its text, or 122; or what is at
-- fault
abbrev pub nested_outcome : Result (List ℕ) NestedFault → Outcome
nested_outcome (Ok text) = limited text
nested_outcome (Err fault) = Err (nested_message fault)

abbrev pub path_or : List ℕ → Result Texts (List ℕ) → Result Texts (List ℕ)
path_or old (Ok path) = Ok path
path_or old (Err fault) = next (list_word old) (λ _. Err fault)

-- The indexes of words each of which is a list of them. Where a word is no list, a fault of the
-- list that is to be changed is told before that of the word.
abbrev pub path_of : List ℕ → Texts → Result Texts (List ℕ)
path_of old words = path_or old (indexes_of words)

-- The list with another element where the indexes of words lead: the first names a place in it, the
-- next one in the list that stands there, and so on. Where they name none, it is the new value as
-- it is.
abbrev pub lset_of : Integers → List ℕ → Texts → List ℕ → Outcome
lset_of style old words new = next (path_of old words)
    (λ path. nested_outcome (element_changed style path new old))
