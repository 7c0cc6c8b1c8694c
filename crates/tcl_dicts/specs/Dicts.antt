-- The subcommands of dict as functions of texts. A value that is read as a dict is the list of its
-- keys with their values.
use Rattle.std.specs.Prelude.{ℕ, ◌%◌, ◌==◌, pos, Bool, true, false, if◌then◌else◌, List, [], ◌∷◌}
use Rattle.std.specs.Prelude.{length, filter, Ok, Err, codes}
use Rattle.std.specs.declared.result.Result.{Result}
use Rattle.std.specs.declared.option.Option.{Option}
use Rattle.std.specs.declared.option.Option.TheVariants.{None, Some}
use Rattle.std.specs.Fmt.{signed_decimal}
use Rattle.tcl_glob.specs.Patterns.{is_match}
use Rattle.tcl_words.specs.Outcomes.{Outcome, next}
use Rattle.tcl_words.specs.Arguments.{one_word, one_or_two_words}
use Rattle.tcl_words.specs.Faults.{wrong_arguments}
use Rattle.tcl_words.specs.Limits.{counted}
use Rattle.tcl_value.specs.Texts.{flat}
use Rattle.tcl_value.specs.Dicts.{Pairs, put, without, value_of, dict_of}
use Rattle.tcl_value.specs.DictMessages.{dict_message}
use Rattle.tcl_value.specs.declared.dict_fault.DictFault.{DictFault}
use Rattle.tcl_lists.specs.Lists.{Texts, list_value, first_and_rest, two_and_rest}
use Rattle.tcl_lists.specs.Errors.{unknown_key}

-- the dict of what was read, or what is told of its fault
abbrev pub dict_or : Result Pairs DictFault → Result Pairs (List ℕ)
dict_or (Ok es) = Ok es
dict_or (Err fault) = Err (dict_message fault)

-- the dict of a word, or 101 to 104 or 121
abbrev pub dict_word : List ℕ → Result Pairs (List ℕ)
dict_word text = dict_or (dict_of text)

-- a dict as a value: the list of its keys and values in turn, or 122
abbrev pub dict_value : Pairs → Outcome
dict_value es = list_value (flat es)

abbrev pub found_or : List ℕ → Option (List ℕ) → Outcome
found_or key (Some v) = Ok v
found_or key None = Err (unknown_key key)

-- the value of a key, or 242
abbrev pub value_at : Pairs → List ℕ → Outcome
value_at es key = found_or key (value_of es key)

-- the dict with a value for a key, where that is a value, or 122
abbrev pub put_within : Pairs → List ℕ → List ℕ → Result Pairs (List ℕ)
put_within es k v = next (dict_value (put es k v)) (λ _. Ok (put es k v))

-- the dict after each key of the words gets the value that follows it, from the left
abbrev pub put_words : Pairs → Texts → Result Pairs (List ℕ)
put_words es [] = Ok es
put_words es (k ∷ []) = Ok es
put_words es (k ∷ v ∷ words) = next (put_within es k v) (λ ds. put_words ds words)

-- keys and values in turn, or 241
abbrev pub in_pairs : List ℕ → Texts → Result Texts (List ℕ)
in_pairs form words = if length words % 2 == 0 then Ok words else Err (wrong_arguments form)

abbrev pub create_of : Texts → Outcome
create_of words =
    next (in_pairs (codes "dict create ?key value ...?") words) (λ pairs.
    next (put_words [] pairs) dict_value)

abbrev pub replace_of : Texts → Outcome
replace_of words =
    next (first_and_rest (codes "dict replace dictionary ?key value ...?") words) (λ p.
    next (in_pairs (codes "dict replace dictionary ?key value ...?") p.1) (λ pairs.
    next (dict_word p.0) (λ es.
    next (put_words es pairs) dict_value)))

-- the dicts of words, one put into the other from the left
abbrev pub merged : Pairs → Texts → Result Pairs (List ℕ)
merged es [] = Ok es
merged es (w ∷ words) =
    next (dict_word w) (λ ds.
    next (put_words es (flat ds)) (λ fs. merged fs words))

abbrev pub merge_of : Texts → Outcome
merge_of words = next (merged [] words) dict_value

-- the dict without a key, where that is a value, or 122
abbrev pub without_within : Pairs → List ℕ → Result Pairs (List ℕ)
without_within es k = next (dict_value (without es k)) (λ _. Ok (without es k))

abbrev pub without_words : Pairs → Texts → Result Pairs (List ℕ)
without_words es [] = Ok es
without_words es (k ∷ words) = next (without_within es k) (λ ds. without_words ds words)

abbrev pub remove_of : Texts → Outcome
remove_of words =
    next (first_and_rest (codes "dict remove dictionary ?key ...?") words) (λ p.
    next (dict_word p.0) (λ es.
    next (without_words es p.1) dict_value))

abbrev pub size_of : Texts → Outcome
size_of words =
    next (one_word (codes "dict size dictionary") words) (λ w.
    next (dict_word w) (λ es. counted (length es)))

-- whether a text fits a pattern that may be left out
abbrev pub fits : Option (List ℕ) → List ℕ → Bool
fits None text = true
fits (Some pattern) text = is_match false pattern text

-- the keys of a dict, and its values, in order
abbrev pub keys_in : Pairs → Texts
keys_in [] = []
keys_in (e ∷ es) = e.0 ∷ keys_in es

abbrev pub values_in : Pairs → Texts
values_in [] = []
values_in (e ∷ es) = e.1 ∷ values_in es

abbrev pub keys_of : Texts → Outcome
keys_of words =
    next (one_or_two_words (codes "dict keys dictionary ?pattern?") words) (λ p.
    next (dict_word p.0) (λ es. list_value (filter (fits p.1) (keys_in es))))

abbrev pub values_of : Texts → Outcome
values_of words =
    next (one_or_two_words (codes "dict values dictionary ?pattern?") words) (λ p.
    next (dict_word p.0) (λ es. list_value (filter (fits p.1) (values_in es))))

-- the value of a key in a text, of the next key in that, and so on
abbrev pub at_key : List ℕ → List ℕ → Outcome
at_key text k = next (dict_word text) (λ es. value_at es k)

abbrev pub at_keys : List ℕ → Texts → Outcome
at_keys text [] = Ok text
at_keys text (k ∷ ks) = next (at_key text k) (λ found. at_keys found ks)

-- without a key the dict itself, written as dicts are
abbrev pub get_at : List ℕ → Texts → Outcome
get_at text [] = next (dict_word text) dict_value
get_at text (k ∷ ks) = at_keys text (k ∷ ks)

abbrev pub get_of : Texts → Outcome
get_of words = next (first_and_rest (codes "dict get dictionary ?key ...?") words)
    (λ p. get_at p.0 p.1)

abbrev pub truth : Bool → Outcome
truth true = Ok (signed_decimal (pos 1))
truth false = Ok (signed_decimal (pos 0))

abbrev pub is_given : Outcome → Bool
is_given (Ok text) = true
is_given (Err fault) = false

-- 1 where there is a value for the keys, 0 where a key is missing or a value on the way is no dict
abbrev pub exists_of : Texts → Outcome
exists_of words =
    next (two_and_rest (codes "dict exists dictionary key ?key ...?") words) (λ p.
    truth (is_given (at_keys p.0 (p.1 ∷ p.2))))
