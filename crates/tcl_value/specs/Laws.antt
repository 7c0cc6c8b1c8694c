-- What the written form of lists comes to.
use Rattle.std.specs.Prelude.{◌≡◌, ℕ, ◌-◌, List, length, Ok}
use Rattle.tcl_value.specs.Writing.{write}
use Rattle.tcl_value.specs.Texts.{flat, pairs, weight, AreDistinct}
use Rattle.tcl_value.specs.Reading.{list_of}
use Rattle.tcl_value.specs.Dicts.{dict_of}

-- A list's text has one byte less than the list weighs, which is what writes each element and one
-- more for each.
abbrev pub WrittenLength : Type 0
WrittenLength = (xs : List (List ℕ)) → length (write xs) ≡ weight xs - 1

-- What is written of a list reads as the list.
abbrev pub WrittenListIsRead : Type 0
WrittenListIsRead = (xs : List (List ℕ)) → list_of (write xs) ≡ Ok xs

-- What is written of keys with their values, where no key stands twice, reads as that dict.
abbrev pub WrittenDictIsRead : Type 0
WrittenDictIsRead = (ks vs : List (List ℕ)) → length ks ≡ length vs → AreDistinct ks →
    dict_of (write (flat (pairs ks vs))) ≡ Ok (pairs ks vs)
