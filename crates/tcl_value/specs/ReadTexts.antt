-- What a text that was read keeps.
use Rattle.std.specs.Prelude.{◌≡◌, ℕ, List, Ok}
use Rattle.tcl_value.specs.Reading.{list_of}
use Rattle.tcl_value.specs.Dicts.{dict_of}
use Rattle.tcl_value.specs.declared.value.read_text.Reading.{Reading}
use Rattle.tcl_value.specs.declared.value.read_text.Reading.TheVariants.{List as Words}
use Rattle.tcl_value.specs.declared.value.read_text.Reading.TheVariants.{Dict as Pairs}

-- what is kept is what the text reads as
abbrev pub IsReading : List ℕ → Reading → Type 0
IsReading text (Words list) = list_of text ≡ Ok list
IsReading text (Pairs dict) = dict_of text ≡ Ok dict
