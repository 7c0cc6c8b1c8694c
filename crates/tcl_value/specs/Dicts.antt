-- Dicts: the entries that a list of keys and values makes, and their changes.
use Rattle.std.specs.Prelude.{◌≡◌, ℕ, zero, suc, ◌%◌, ◌==◌, cond, List, [], ◌∷◌, length, Result, Ok}
use Rattle.std.specs.Prelude.{Err, Option}
use Rattle.std.specs.Str.{bytes_eq}
use Rattle.std.specs.Map.{lookup, remove_entry}
use Rattle.indexmap.specs.IndexMap.{insert_entry}
use Rattle.tcl_text.specs.Lists.{list_of}
use Rattle.tcl_text.specs.declared.list.ListFault.{ListFault}
use Rattle.tcl_text.specs.declared.list.ListError.{ListError}
use Rattle.tcl_text.specs.declared.list.ListError.TheVariants.{Memory as NoMemory, Fault as Bad}
use Rattle.tcl_value.specs.declared.dict_fault.DictFault.{DictFault}
use Rattle.tcl_value.specs.declared.dict_fault.DictFault.TheVariants.{List as NoList, MissingValue}
use Rattle.tcl_value.specs.declared.dict_fault.DictError.{DictError}
use Rattle.tcl_value.specs.declared.dict_fault.DictError.TheVariants.{Memory, Fault}

-- keys with their values, in order
abbrev pub Pairs : Type 0
Pairs = List (List ℕ × List ℕ)

-- the entries after a key gets a value: a key that is there keeps its place, and a new key goes
-- last
abbrev pub put : Pairs → List ℕ → List ℕ → Pairs
put es k v = insert_entry bytes_eq es k v

-- the entries without a key
abbrev pub without : Pairs → List ℕ → Pairs
without es k = remove_entry (bytes_eq k) es

-- the value of a key
abbrev pub value_of : Pairs → List ℕ → Option (List ℕ)
value_of es k = lookup (bytes_eq k) es

-- how many entries stand before that of a key, which are all where it has none
abbrev pub place_of : Pairs → List ℕ → ℕ
place_of [] k = 0
place_of (e ∷ es) k = cond (bytes_eq k e.0) 0 (suc (place_of es k))

-- the entries, with another value at a place
abbrev pub value_set : Pairs → ℕ → List ℕ → Pairs
value_set [] i v = []
value_set (e ∷ es) zero v = (e.0, v) ∷ es
value_set (e ∷ es) (suc i) v = e ∷ value_set es i v

-- the entries without that at a place
abbrev pub entry_dropped : Pairs → ℕ → Pairs
entry_dropped [] i = []
entry_dropped (e ∷ es) zero = es
entry_dropped (e ∷ es) (suc i) = e ∷ entry_dropped es i

-- the entries after each key of a list gets the value that follows it, from the left
abbrev pub put_all : Pairs → List (List ℕ) → Pairs
put_all es [] = es
put_all es (k ∷ []) = es
put_all es (k ∷ v ∷ l) = put_all (put es k v) l

-- the dict of a list: of keys and values in turn, where a repeated key keeps its first place and
-- its last value
abbrev pub dict_of_list : List (List ℕ) → Result Pairs DictFault
dict_of_list l = cond ((length l % 2) == 1) (Err MissingValue) (Ok (put_all [] l))

abbrev pub dict_of_read : Result (List (List ℕ)) ListFault → Result Pairs DictFault
dict_of_read (Ok l) = dict_of_list l
dict_of_read (Err f) = Err (NoList f)

-- the dict that a text spells, or the fault that it has: that of its list, or a key with no value
abbrev pub dict_of : List ℕ → Result Pairs DictFault
dict_of text = dict_of_read (list_of text)

-- the error of reading a dict, by that of reading its list
abbrev pub dict_error : ListError → DictError
dict_error NoMemory = Memory
dict_error (Bad f) = Fault (NoList f)

-- What a function returned is what reading gives, unless memory ran out.
abbrev pub FailsDict : DictError → Result Pairs DictFault → Type 0
FailsDict Memory read = Unit {0}
FailsDict (Fault f) read = read ≡ Err f

abbrev pub GivesDict : Result Pairs DictError → Result Pairs DictFault → Type 0
GivesDict (Ok es) read = read ≡ Ok es
GivesDict (Err e) read = FailsDict e read
