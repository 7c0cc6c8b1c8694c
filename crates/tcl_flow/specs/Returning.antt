-- What the options of a return mean, and what a caught completion shows of its own.
use Rattle.std.specs.Prelude.{ℕ, zero, suc, ℤ, pos, negsuc, cond, List, [], ◌∷◌, ◌++◌, Option, Some}
use Rattle.std.specs.Prelude.{None, Result, Ok, Err, codes}
use Rattle.std.specs.Str.{bytes_eq}
use Rattle.std.specs.Fmt.{decimal, signed_decimal}
use Rattle.tcl_text.specs.declared.integer.Integers.{Integers}
use Rattle.tcl_text.specs.declared.integer.IntegerFault.{IntegerFault}
use Rattle.tcl_value.specs.Reading.{int_of}
use Rattle.tcl_core.specs.Endings.{Options, Completion, NONE}
use Rattle.tcl_flow.specs.declared.returning.OptionsFault.{OptionsFault}
use Rattle.tcl_flow.specs.declared.returning.OptionsFault.TheVariants.{BadOption, BadCode}

abbrev pub Text : Type 0
Text = List ℕ

-- ## Reading

-- the code of a word
abbrev pub code_word : Text → Option ℤ
code_word x = cond (bytes_eq x (codes "ok")) (Some (pos 0))
    (cond (bytes_eq x (codes "error")) (Some (pos 1))
    (cond (bytes_eq x (codes "return")) (Some (pos 2))
    (cond (bytes_eq x (codes "break")) (Some (pos 3))
    (cond (bytes_eq x (codes "continue")) (Some (pos 4)) None))))

abbrev pub word_or_integer : Option ℤ → Result ℤ IntegerFault → Option ℤ
word_or_integer (Some n) i = Some n
word_or_integer None (Ok n) = Some n
word_or_integer None (Err e) = None

-- a code is a word or an integer
abbrev pub code_of : Integers → Text → Option ℤ
code_of style x = word_or_integer (code_word x) (int_of style x)

abbrev pub from_zero_up : Result ℤ IntegerFault → Option ℕ
from_zero_up (Ok (pos n)) = Some n
from_zero_up (Ok (negsuc n)) = None
from_zero_up (Err e) = None

-- a level is an integer from 0 up
abbrev pub level_of : Integers → Text → Option ℕ
level_of style x = from_zero_up (int_of style x)

-- ## Returning

-- without options a return gives its text to the caller of the procedure
abbrev pub plain : Options
plain = record { code = pos 0; level = 1; errorcode = NONE }

abbrev pub raised_by : ℤ → Options → Options
raised_by (pos (suc (suc zero))) o =
    record { code = pos 0; level = suc o.level; errorcode = o.errorcode }
raised_by n o = o

-- `-code return` is `-code ok` one level higher
abbrev pub raised : Options → Options
raised o = raised_by o.code o

abbrev pub returned_over : ℕ → Options → Text → Completion
returned_over zero o t = record { code = o.code; text = t; options = o }
returned_over (suc n) o t = record { code = pos 2; text = t; options = o }

-- at level 0 the code applies at once, and otherwise it is a return
abbrev pub returned : Options → Text → Completion
returned o t = returned_over o.level o t

-- ## Showing

abbrev pub errorcode_shown : ℤ → Text → List Text
errorcode_shown (pos (suc zero)) e = codes "-errorcode" ∷ e ∷ []
errorcode_shown n e = []

-- the options dictionary, as the list of its keys and values
abbrev pub shown : Options → List Text
shown o = codes "-code" ∷ signed_decimal o.code ∷ codes "-level" ∷ decimal o.level ∷ errorcode_shown
    o.code o.errorcode

abbrev pub caught_as : ℤ → Completion → Options
caught_as (pos (suc (suc zero))) c = c.options
caught_as n c = record { code = n; level = 0; errorcode = c.options.errorcode }

-- the options of a caught completion: of one that is no return its code, at level 0
abbrev pub caught : Completion → Options
caught c = caught_as c.code c

-- ## Refusing

-- what a script is told of options that are refused
abbrev pub options_message : OptionsFault → Text
options_message (BadOption x) = codes "bad option \"" ++ x ++ codes "\""
options_message (BadCode x) = codes "bad completion code \"" ++ x ++ codes "\""
