-- How words are read: as an index, an integer, a list.
use Rattle.std.specs.Prelude.{ℕ, ℤ, pos, ◌-ℤ◌, nat_le, if◌then◌else◌, List, Ok, Err, Some, None}
use Rattle.std.specs.declared.result.Result.{Result}
use Rattle.std.specs.declared.option.Option.{Option}
use Rattle.tcl_text.specs.declared.integer.Integers.{Integers}
use Rattle.tcl_text.specs.declared.integer.IntegerFault.{IntegerFault}
use Rattle.tcl_text.specs.declared.integer.IntegerFault.TheVariants.{NotInteger, TooLarge}
use Rattle.tcl_text.specs.declared.index.Index.{Index}
use Rattle.tcl_text.specs.declared.list.ListFault.{ListFault}
use Rattle.tcl_text.specs.Numbers.{integer_of, in_64_bits}
use Rattle.tcl_text.specs.Indexes.{index_of, place}
use Rattle.tcl_text.specs.Lists.{list_of}
use Rattle.tcl_text.specs.Writing.{fault_message}
use Rattle.tcl_words.specs.Faults.{bad_index, not_integer, too_large, too_long}

abbrev pub integer_or : List ℕ → Result ℤ IntegerFault → Result ℤ (List ℕ)
integer_or text (Ok n) = Ok n
integer_or text (Err NotInteger) = Err (not_integer text)
integer_or text (Err TooLarge) = Err too_large

-- the integer of a word, or 111 or 112
abbrev pub integer_word : Integers → List ℕ → Result ℤ (List ℕ)
integer_word style text = integer_or text (in_64_bits (integer_of style text))

abbrev pub index_or : List ℕ → Option ℤ → Result Index (List ℕ)
index_or text (Some n) = Ok (place n)
index_or text None = Err (bad_index text)

-- the place to which an index word points in a list of so many elements, `end` being the last; 114,
-- or 122 where no value has so many
abbrev pub index_word : Integers → ℕ → List ℕ → Result Index (List ℕ)
index_word style count text = if nat_le count 16777216 then index_or text
    (index_of style (pos count -ℤ pos 1) text) else Err too_long

abbrev pub list_or : Result (List (List ℕ)) ListFault → Result (List (List ℕ)) (List ℕ)
list_or (Ok list) = Ok list
list_or (Err fault) = Err (fault_message fault)

-- the list of a word, or 101 to 104
abbrev pub list_word : List ℕ → Result (List (List ℕ)) (List ℕ)
list_word text = list_or (list_of text)
