-- The changes that subcommands of dict make to a variable's value.
use Rattle.std.specs.Prelude.{ℕ, ℤ, pos, ◌+ℤ◌, List, [], ◌∷◌, ◌++◌, Ok, Err, codes}
use Rattle.std.specs.declared.result.Result.{Result}
use Rattle.std.specs.declared.option.Option.{Option}
use Rattle.std.specs.declared.option.Option.TheVariants.{None, Some}
use Rattle.std.specs.Fmt.{signed_decimal}
use Rattle.tcl_text.specs.declared.integer.Integers.{Integers}
use Rattle.tcl_text.specs.declared.integer.IntegerFault.{IntegerFault}
use Rattle.tcl_text.specs.Numbers.{in_64_bits}
use Rattle.tcl_text.specs.Messages as messages
use Rattle.tcl_words.specs.Outcomes.{Outcome, next}
use Rattle.tcl_words.specs.Words.{integer_word}
use Rattle.tcl_words.specs.Faults.{wrong_arguments}
use Rattle.tcl_words.specs.Limits.{limited}
use Rattle.tcl_value.specs.Dicts.{put, value_of}
use Rattle.tcl_lists.specs.Nested.{value_changed, key_removed, value_or_empty}
use Rattle.tcl_lists.specs.Lists.{Texts, first_middle_last, lappend_of as longer_list}
use Rattle.tcl_lists.specs.Changing.{nested_outcome}
use Rattle.tcl_dicts.specs.Dicts.{dict_word, dict_value}

-- a name, keys and a value, where there is a key; or 241
abbrev pub with_keys : List ℕ → List ℕ × Texts × List ℕ → Result (List ℕ × Texts × List ℕ) (List ℕ)
with_keys form (name, [], value) = Err (wrong_arguments form)
with_keys form (name, k ∷ keys, value) = Ok (name, k ∷ keys, value)

-- the words of dict set: the name, one key or more, the value
abbrev pub set_words_of : Texts → Result (List ℕ × Texts × List ℕ) (List ℕ)
set_words_of words =
    next (first_middle_last (codes "dict set varName key ?key ...? value") words) (λ p.
    with_keys (codes "dict set varName key ?key ...? value") p)

-- the value with another one at a path of keys, those that are missing being new
abbrev pub set_of : List ℕ → Texts → List ℕ → Outcome
set_of old keys new = nested_outcome (value_changed keys new old)

-- the value without a key in the dict to which a path of other keys leads
abbrev pub unset_of : List ℕ → Texts → List ℕ → Outcome
unset_of old path key = nested_outcome (key_removed path key old)

-- what a dict has for a key
abbrev pub found_of : List ℕ → List ℕ → Result (Option (List ℕ)) (List ℕ)
found_of old k = next (dict_word old) (λ es. Ok (value_of es k))

-- the dict with another value for a key, new where the key was missing
abbrev pub put_of : List ℕ → List ℕ → List ℕ → Outcome
put_of old k v = next (dict_word old) (λ es. dict_value (put es k v))

-- the dict with another value for a key: what becomes of the one that it had, if it had one
abbrev pub changed_of : (Option (List ℕ) → Outcome) → List ℕ → List ℕ → Outcome
changed_of change old k = next (found_of old k) (λ found. next (change found) (λ v. put_of old k v))

-- the integer of a text, or this one where there is none
abbrev pub integer_or : ℤ → Integers → Option (List ℕ) → Result ℤ (List ℕ)
integer_or other style None = Ok other
integer_or other style (Some text) = integer_word style text

abbrev pub overflow : List ℕ
overflow = messages.overflow

abbrev pub number_text : Result ℤ IntegerFault → Outcome
number_text (Ok n) = Ok (signed_decimal n)
number_text (Err fault) = Err overflow

-- a number of 64 bits as a value, or 212
abbrev pub number_value : ℤ → Outcome
number_value n = number_text (in_64_bits (Some n))

-- a number, which is 0 where there is none, with another one added, which is 1 where none is given
abbrev pub incremented : Integers → Option (List ℕ) → Option (List ℕ) → Outcome
incremented style by found =
    next (integer_or (pos 0) style found) (λ n.
    next (integer_or (pos 1) style by) (λ m. number_value (n +ℤ m)))

abbrev pub incr_of : Integers → List ℕ → List ℕ → Option (List ℕ) → Outcome
incr_of style old k by = changed_of (incremented style by) old k

abbrev pub joined : Texts → List ℕ
joined [] = []
joined (w ∷ words) = w ++ joined words

-- a text, which is empty where there is none, with others behind it
abbrev pub appended : Texts → Option (List ℕ) → Outcome
appended words found = limited (value_or_empty found ++ joined words)

abbrev pub append_of : List ℕ → List ℕ → Texts → Outcome
append_of old k words = changed_of (appended words) old k

-- a list, which is empty where there is none, with others' elements behind its own
abbrev pub lengthened : Texts → Option (List ℕ) → Outcome
lengthened words found = longer_list (value_or_empty found) words

abbrev pub lappend_of : List ℕ → List ℕ → Texts → Outcome
lappend_of old k words = changed_of (lengthened words) old k
