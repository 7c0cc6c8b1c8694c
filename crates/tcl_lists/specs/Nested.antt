-- Changes inside nested lists and dicts, as functions of texts. The texts that they give have no
-- limit; that of values is in what is refused.
use Rattle.std.specs.Prelude.{◌≡◌, ℕ, pos, ◌-ℤ◌, nat_le, if◌then◌else◌, List, [], ◌∷◌, length, Ok}
use Rattle.std.specs.Prelude.{Err, option_map}
use Rattle.std.specs.declared.result.Result.{Result}
use Rattle.std.specs.declared.option.Option.{Option}
use Rattle.std.specs.declared.option.Option.TheVariants.{None, Some}
use Rattle.tcl_text.specs.declared.integer.Integers.{Integers}
use Rattle.tcl_text.specs.declared.index.Index.{Index}
use Rattle.tcl_text.specs.declared.index.Index.TheVariants.{Before, At, Beyond}
use Rattle.tcl_text.specs.declared.list.ListFault.{ListFault}
use Rattle.tcl_text.specs.Indexes.{index_of, place}
use Rattle.tcl_text.specs.Lists.{list_of}
use Rattle.tcl_value.specs.declared.dict_fault.DictFault.{DictFault}
pub use Rattle.tcl_value.specs.Inside.{element_at, with_element, value_or_empty}
use Rattle.tcl_value.specs.Limits.{IsPast}
use Rattle.tcl_value.specs.Writing.{write}
use Rattle.tcl_value.specs.Texts.{flat}
use Rattle.tcl_value.specs.Dicts.{Pairs, put, without, value_of, dict_of}
use Rattle.tcl_lists.specs.declared.fault.NestedFault.{NestedFault}
use Rattle.tcl_lists.specs.declared.fault.NestedFault.TheVariants.{List as NoList, Dict as NoDict}
use Rattle.tcl_lists.specs.declared.fault.NestedFault.TheVariants.{BadIndex, NoPlace, UnknownKey}
use Rattle.tcl_lists.specs.declared.fault.NestedError.{NestedError}
use Rattle.tcl_lists.specs.declared.fault.NestedError.TheVariants.{Memory, TooLong, Fault}

-- texts in order: the elements of a list, or the words of a path
abbrev pub Texts : Type 0
Texts = List (List ℕ)

-- the changed text, or what is at fault
abbrev pub Outcome : Type 0
Outcome = Result (List ℕ) NestedFault

-- what follows, where there is something
abbrev pub next : {X Y : Type 0} → Result X NestedFault → (X → Result Y NestedFault) →
    Result Y NestedFault
next (Ok x) go = go x
next (Err fault) go = Err fault

abbrev pub list_or : Result Texts ListFault → Result Texts NestedFault
list_or (Ok l) = Ok l
list_or (Err fault) = Err (NoList fault)

-- the list that a text spells, or 101 to 104
abbrev pub list_in : List ℕ → Result Texts NestedFault
list_in text = list_or (list_of text)

abbrev pub dict_or : Result Pairs DictFault → Result Pairs NestedFault
dict_or (Ok es) = Ok es
dict_or (Err fault) = Err (NoDict fault)

-- the dict that a text spells, or 101 to 104 or 121
abbrev pub dict_in : List ℕ → Result Pairs NestedFault
dict_in text = dict_or (dict_of text)

-- the place to which an index points, where it is one of so many elements or that behind the last
abbrev pub place_within : ℕ → Index → Option ℕ
place_within count Before = None
place_within count (At n) = if nat_le n count then Some n else None
place_within count Beyond = None

abbrev pub place_found : Option ℕ → Result ℕ NestedFault
place_found (Some n) = Ok n
place_found None = Err NoPlace

abbrev pub place_or : List ℕ → ℕ → Option Index → Result ℕ NestedFault
place_or index count None = Err (BadIndex index)
place_or index count (Some at) = place_found (place_within count at)

-- the place that an index names in a list, `end` being the last: one of an element, or that behind
-- the last; else 114 or 243
abbrev pub place_in : Integers → Texts → List ℕ → Result ℕ NestedFault
place_in style l index = place_or index (length l)
    (option_map place (index_of style (pos (length l) -ℤ pos 1) index))

-- The text with another element at a path of indexes: the first names a place in its list, and the
-- rest lead on in the element there. A list that is changed is written anew. Without an index it is
-- the new text as it is.
abbrev pub element_changed : Integers → Texts → List ℕ → List ℕ → Outcome
element_changed style [] new text = Ok new
element_changed style (i ∷ path) new text =
    next (list_in text) (λ l.
    next (place_in style l i) (λ n.
    next (element_changed style path new (element_at n l)) (λ x. Ok (write (with_element n x l)))))

-- The text with another value at a path of keys: the first is one of its dict, and the rest lead on
-- in the value of that. A key that is missing is new. A dict that is changed is written anew.
-- Without a key it is the new text as it is.
abbrev pub value_changed : Texts → List ℕ → List ℕ → Outcome
value_changed [] new text = Ok new
value_changed (k ∷ keys) new text =
    next (dict_in text) (λ es.
    next (value_changed keys new (value_or_empty (value_of es k)))
    (λ x. Ok (write (flat (put es k x)))))

-- the value of a key, or 242
abbrev pub known : List ℕ → Option (List ℕ) → Outcome
known key (Some v) = Ok v
known key None = Err (UnknownKey key)

-- the text without a key in the dict to which a path of other keys leads, each of which is there;
-- the last key may be missing
abbrev pub key_removed : Texts → List ℕ → List ℕ → Outcome
key_removed [] key text = next (dict_in text) (λ es. Ok (write (flat (without es key))))
key_removed (k ∷ path) key text =
    next (dict_in text) (λ es.
    next (known k (value_of es k)) (λ inner.
    next (key_removed path key inner) (λ x. Ok (write (flat (put es k x))))))

-- there is a changed text, of which this holds
abbrev pub AtText : Outcome → (List ℕ → Type 0) → Type 0
AtText (Ok text) P = P text
AtText (Err fault) P = ⊥

-- when there is a fault, want of memory aside
abbrev pub Refuses : {X : Type 0} → NestedError → Result X NestedFault → Type 0
Refuses Memory outcome = Unit {0}
Refuses TooLong outcome = ⊥
Refuses (Fault fault) outcome = outcome ≡ Err fault

-- when a change is refused: where there is a fault, or where the changed text is too long for a
-- value; want of memory aside
abbrev pub RefusesText : NestedError → Outcome → Type 0
RefusesText Memory outcome = Unit {0}
RefusesText TooLong outcome = AtText outcome IsPast
RefusesText (Fault fault) outcome = outcome ≡ Err fault
